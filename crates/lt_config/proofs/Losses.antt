-- A setup over links that lose messages: its nodes acknowledge, and few losses in a row are allowed.
use Rattle.std.proofs.Common.{◌≡◌, ◌≤◌, ℕ, ℤ, pos, negsuc, true, false, if◌then◌else◌, List, Option, Some, None, refl, sym, ap, subst, arith, nat_le}
use Rattle.std.proofs.lemmas.Bool.{and_parts}
use Rattle.std.proofs.lemmas.Slice.Eq.{bytes_eq-Decides}
use Rattle.std.specs.Prelude.{codes, option_and_then}
use Rattle.std.specs.Option.{option_map_or}
use Rattle.toml.specs.Data.{Data, Members, as_integer, as_str}
use Rattle.lt_arch.specs.declared.timing.Protocol.TheVariants.{BackPressure, TimeBased}
use Rattle.lt_config.specs.declared.keys.Key.TheVariants.{Protocol, Losses}
use Rattle.lt_config.specs.Keys.{value_at}
use Rattle.lt_arch.specs.Paced.{most_losses}
use Rattle.lt_config.specs.Values.{is_int_between, is_losses}
use Rattle.lt_config.specs.Faults.{says_lossy, says_time, is_lossy}
use Rattle.lt_config.specs.Setup.{natural, losses_of, protocol_of}
use Rattle.lt_config.proofs.NoFault.{NoFault, inside}

-- no text says both

untimed : (text : List ℕ) → says_lossy text ≡ true → says_time text ≡ false
untimed text lossy = subst (λ x. says_time x ≡ false) (sym ((bytes_eq-Decides text (codes "lossy")).0 lossy)) refl

untimed_by : (o : Option (List ℕ)) → option_map_or says_lossy o false ≡ true → option_map_or says_time o false ≡ false
untimed_by None lossy = refl
untimed_by (Some text) lossy = untimed text lossy

pub lossy_acknowledges : (t : Members) → is_lossy t ≡ true → protocol_of t ≡ BackPressure
lossy_acknowledges t lossy = ap (λ b. if b then TimeBased else BackPressure) (untimed_by (option_and_then as_str (value_at t Protocol)) lossy)

-- a value in range is small

le-of : (m n : ℕ) → nat_le m n ≡ true → m ≤ n
le-of m n h = grind arith

within : (o : Option ℤ) → option_map_or (is_int_between 0 most_losses) o false ≡ true → option_map_or natural o 0 ≤ most_losses
within None inside = omega arith
within (Some (pos n)) inside = le-of n most_losses (and_parts (nat_le 0 n) (nat_le n most_losses) inside).1
within (Some (negsuc n)) inside = omega arith

few_by : (o : Option Data) → ((d : Data) → o ≡ Some d → is_losses d ≡ true) → option_map_or natural (option_and_then as_integer o) 0 ≤ most_losses
few_by None good = omega arith
few_by (Some d) good = within (as_integer d) (good d refl)

pub few_losses : (t : Members) → NoFault t → losses_of t ≤ most_losses
few_losses t good = few_by (value_at t Losses) (λ d at. inside is_losses (value_at t Losses) d at (good.outside Losses))
