-- A table without a fault has what it needs, of the right kind and in range.
use Rattle.std.proofs.Common.{◌≡◌, Bool, true, false, not, if◌then◌else◌, ◌&&◌, List, [], ◌∷◌, Option, Some, None, is_some, option_map, refl, sym, ap, ◌∙◌}
use Rattle.std.proofs.lemmas.Bool.{false≢true}
use Rattle.std.specs.Prelude.{find}
use Rattle.std.specs.Option.{option_map_or}
use Rattle.toml.specs.Data.{Data, Members}
use Rattle.lt_config.specs.Keys.{keys, key_text}
use Rattle.lt_config.specs.Faults.{fault, first_fault, first_key, first_unknown, or_else, is_missing, is_wrong, is_outside, bad_name}
use Rattle.lt_config.specs.declared.keys.Key.{Key}
use Rattle.lt_config.specs.declared.keys.Key.TheVariants.{Protocol, Period, Delay, Send, Execute, Losses, Leader, Nodes, Periods, Delays, Sends, Executes}
use Rattle.lt_config.specs.declared.fault.ConfigFault.{ConfigFault}
use Rattle.lt_config.specs.declared.fault.ConfigKind.{ConfigKind}
use Rattle.lt_config.specs.declared.fault.ConfigKind.TheVariants.{Missing, WrongKind, UnknownKey, OutOfRange, BadName}

left_none : {A : Type 0} (a b : Option A) → or_else a b ≡ None → a ≡ None
left_none None b e = refl
left_none (Some a) b e = cc

right_none : {A : Type 0} (a b : Option A) → or_else a b ≡ None → b ≡ None
right_none None b e = e
right_none (Some a) b e = cc

from_none : {A B : Type 0} (f : A → B) (o : Option A) → option_map f o ≡ None → o ≡ None
from_none f None e = refl
from_none f (Some a) e = cc

find_more : (p : Key → Bool) (k : Key) (ks : List Key) → find p (k ∷ ks) ≡ None → (p k ≡ false) × (find p ks ≡ None)
find_more p k ks e = by (p k) refl e
  where
    by : (b : Bool) → p k ≡ b → (if b then Some k else find p ks) ≡ None → (p k ≡ false) × (find p ks ≡ None)
    by true h g = cc
    by false h g = (h, g)

each_key : (p : Key → Bool) → find p keys ≡ None → (k : Key) → p k ≡ false
each_key p e k =
    let a = find_more p Protocol (Period ∷ Delay ∷ Send ∷ Execute ∷ Losses ∷ Leader ∷ Nodes ∷ Periods ∷ Delays ∷ Sends ∷ Executes ∷ []) e in
    let b = find_more p Period (Delay ∷ Send ∷ Execute ∷ Losses ∷ Leader ∷ Nodes ∷ Periods ∷ Delays ∷ Sends ∷ Executes ∷ []) a.1 in
    let d = find_more p Delay (Send ∷ Execute ∷ Losses ∷ Leader ∷ Nodes ∷ Periods ∷ Delays ∷ Sends ∷ Executes ∷ []) b.1 in
    let f = find_more p Send (Execute ∷ Losses ∷ Leader ∷ Nodes ∷ Periods ∷ Delays ∷ Sends ∷ Executes ∷ []) d.1 in
    let g = find_more p Execute (Losses ∷ Leader ∷ Nodes ∷ Periods ∷ Delays ∷ Sends ∷ Executes ∷ []) f.1 in
    let o = find_more p Losses (Leader ∷ Nodes ∷ Periods ∷ Delays ∷ Sends ∷ Executes ∷ []) g.1 in
    let n = find_more p Leader (Nodes ∷ Periods ∷ Delays ∷ Sends ∷ Executes ∷ []) o.1 in
    let h = find_more p Nodes (Periods ∷ Delays ∷ Sends ∷ Executes ∷ []) n.1 in
    let i = find_more p Periods (Delays ∷ Sends ∷ Executes ∷ []) h.1 in
    let j = find_more p Delays (Sends ∷ Executes ∷ []) i.1 in
    let l = find_more p Sends (Executes ∷ []) j.1 in
    let m = find_more p Executes [] l.1 in
    elim k as (λ x. p x ≡ false) [
      | Protocol ↦ a.0
      | Period ↦ b.0
      | Delay ↦ d.0
      | Send ↦ f.0
      | Execute ↦ g.0
      | Losses ↦ o.0
      | Leader ↦ n.0
      | Nodes ↦ h.0
      | Periods ↦ i.0
      | Delays ↦ j.0
      | Sends ↦ l.0
      | Executes ↦ m.0
    ]

no_key : (kind : ConfigKind) (p : Key → Bool) → fault kind (first_key p) ≡ None → (k : Key) → p k ≡ false
no_key kind p e = each_key p (from_none key_text (find p keys) (from_none (λ key. record { kind = kind; key = key }) (first_key p) e))

none_of : (a b d f g : Option ConfigFault) → or_else a (or_else b (or_else d (or_else f g))) ≡ None → (a ≡ None) × (f ≡ None) × (g ≡ None)
none_of a b d f g e =
    let e1 = right_none a _ e in
    let e2 = right_none b _ e1 in
    let e3 = right_none d _ e2 in
    (left_none a _ e, left_none f g e3, right_none f g e3)

-- what the absence of a fault says, as far as the numbers and names need it
pub record NoFault (t : Members) : Type 0 where
  pub missing : (k : Key) → is_missing t k ≡ false
  pub outside : (k : Key) → is_outside t k ≡ false
  pub names : bad_name t ≡ None

pub no_fault : (t : Members) → first_fault t ≡ None → NoFault t
no_fault t e =
    let (missing, outside, names) = none_of (fault Missing (first_key (is_missing t))) (fault WrongKind (first_key (is_wrong t))) (fault UnknownKey (first_unknown t))
    (fault OutOfRange (first_key (is_outside t))) (fault BadName (bad_name t)) e in
    record {
      missing = no_key Missing (is_missing t) missing;
      outside = no_key OutOfRange (is_outside t) outside;
      names = from_none (λ key. record { kind = BadName; key = key }) (bad_name t) names;
    }

pub there : (o : Option Data) → not (is_some o) && true ≡ false → (d : Data) × (o ≡ Some d)
there None e = absurd (false≢true (sym e))
there (Some d) e = (d, refl)

pub not_false : (b : Bool) → not b ≡ false → b ≡ true
not_false true h = refl
not_false false h = absurd (false≢true (sym h))

pub inside : (q : Data → Bool) (o : Option Data) (d : Data) → o ≡ Some d → option_map_or (λ x. not (q x)) o false ≡ false → q d ≡ true
inside q o d at e = not_false (q d) (ap (λ x. option_map_or (λ y. not (q y)) x false) (sym at) ∙ e)
