-- What a node hands out after an activation are the messages of the architecture.
use Rattle.std.proofs.Common.{◌≡◌, ℕ, ◌<◌, Bool, true, false, not, List, [], ◌∷◌, refl, sym, ap, ◌∙◌, subst, arith, pos}
use Rattle.std.specs.Prelude.{◌&&◌, ◌==◌, nat_lt, int_lt, if◌then◌else◌}
use Rattle.std.proofs.lemmas.Bool.Decides.{Decides-eqb, nat_tests}
use Rattle.lt_base.specs.declared.value.Value.{Value}
use Rattle.lt_base.specs.Program.{Function}
use Rattle.lt_base.specs.Truths.{same_truth}
use Rattle.lt_arch.specs.declared.shape.Shape.{Shape}
use Rattle.lt_arch.specs.State.{NodeState}
use Rattle.lt_arch.specs.Readers.{chan_count, chan_of, from_of, to_of, carries_data}
use Rattle.lt_link.specs.Ports.{is_from}
use Rattle.lt_lossy.specs.State.{LossyState, number_on, sent_count}
use Rattle.lt_lossy.specs.Step.{sends_number}
use Rattle.lt_norm.specs.Flat.{Originated}
use Rattle.lt_place.specs.declared.layout.Layout.{Layout}
use Rattle.lt_place.specs.Layout.{crossing_of}
use Rattle.lt_net_node.specs.Layout.{crossing_place}
use Rattle.lt_net_node.specs.Channels.{HasChannels}
use Rattle.lt_net_bench.proofs.Entries.{same_number, and_parts}
use Rattle.lt_c.specs.Tree.{sendings, message_number, posted}
use Rattle.lt_c.specs.Meaning.{Store, stored}
use Rattle.lt_c.specs.Literals.{c_number}
use Rattle.lt_c_net.specs.Stands.{Packet}
use Rattle.lt_c_net.specs.Runs.{value_count}
use Rattle.lt_c_lossy.specs.Crossed.{crossing_value}
use Rattle.lt_c_lossy.specs.Losing.{message_again, answer_again, where_numbered}
use Rattle.lt_c_lossy.specs.LosingStands.{CarriesNumber, CarryNumbers}
use Rattle.lt_c_lossy.specs.LosingRuns.{LosingDeployment}
use Rattle.lt_c_lossy.specs.LosingWholeRuns.{IsDeployedLosing}
use Rattle.lt_c_lossy.specs.LosingLaws.{IsLosingAt, sent_if, NumbersHandedOut}
use Rattle.lt_c_lossy.proofs.Crossings.{fits_of, place_in_channel}
use Rattle.lt_c_lossy.proofs.Filled.{giving_leaves, given_again}

-- a channel from a node, and what it carries
from_parts : (s : Shape) (n c : ℕ) (kind : Bool) → is_from s.channels n kind c ≡ true → (from_of s c ≡ n) × (same_truth kind (carries_data s c) ≡ true)
unfolding chan_of
from_parts s n c kind h = let p = and_parts (from_of s c == n) (same_truth kind (carries_data s c)) h in ((Decides-eqb (from_of s c) n).0 p.0, p.1)

-- no channel from it
from_other : (s : Shape) (n c : ℕ) → is_from s.channels n true c ≡ false → is_from s.channels n false c ≡ false → (from_of s c == n) ≡ false
unfolding chan_of
from_other s n c h g = neither (from_of s c == n) (carries_data s c) h g
  where
    neither : (a b : Bool) → (a && b) ≡ false → (a && not b) ≡ false → a ≡ false
    neither false b h g = refl
    neither true true h g = absurd (cc)
    neither true false h g = absurd (cc)

is_false : (b : Bool) → not b ≡ true → b ≡ false
is_false true h = absurd (cc)
is_false false h = refl

above_zero : (n : ℕ) → nat_lt 0 n ≡ true → 0 < n
above_zero n h = grind (arith, nat_tests, h)

-- one packet is sent where its number is above 0
one_packet : (f : Function) (l : Layout) (s : Shape) (rows : List (List Value)) (c at number : ℕ) (k : Packet) → k.mark ≡ pos number → (0 < number → CarriesNumber f l s rows c number k) → (sends : Bool) → sends ≡ nat_lt 0 number →
    CarryNumbers f l s rows c (where_numbered k) (if sends then record { number = number; sent_at = at } ∷ [] else [])
one_packet f l s rows c at number k mark carries sends is =
    subst (λ (z : Bool). CarryNumbers f l s rows c (if z then k ∷ [] else []) (if sends then record { number = number; sent_at = at } ∷ [] else [])) (sym marked)
    (subst (λ (z : Bool). CarryNumbers f l s rows c (if nat_lt 0 number then k ∷ [] else []) (if z then record { number = number; sent_at = at } ∷ [] else [])) (sym is) (both (nat_lt 0 number) refl))
  where
    marked : int_lt (pos 0) k.mark ≡ nat_lt 0 number
    marked = ap (int_lt (pos 0)) mark

    both : (b : Bool) → nat_lt 0 number ≡ b → CarryNumbers f l s rows c (if b then k ∷ [] else []) (if b then record { number = number; sent_at = at } ∷ [] else [])
    both true e = (carries (above_zero number e), tt)
    both false e = tt

module _ (f : Originated) (losses : ℕ) (d : LosingDeployment) (is : IsDeployedLosing f losses d) (st : LossyState) (n at c : ℕ) (cb : c < chan_count d.base.shape) (m : Store) (stands : IsLosingAt f d st n m) where
  abbrev l : Layout
  l = d.base.layout

  abbrev s : Shape
  s = d.base.shape

  abbrev rows : List (List Value)
  rows = d.base.inputs

  abbrev v : NodeState
  v = st.node n

  channels : HasChannels l s
  channels = (fits_of f losses d is).channels

  -- where the node counts this number on the channel
  sends_is : from_of s c ≡ n → sends_number s n v c ≡ nat_lt 0 (number_on s v c)
  sends_is from = ap (λ i. (i == n) && nat_lt 0 (number_on s v c)) from ∙ ap (λ (b : Bool). b && nat_lt 0 (number_on s v c)) (same_number n)

  data_number : carries_data s c ≡ true → number_on s v c ≡ sent_count v
  data_number carries = ap (λ (b : Bool). if b then sent_count v else v.executed) carries

  answer_number : carries_data s c ≡ false → number_on s v c ≡ v.executed
  answer_number answers = ap (λ (b : Bool). if b then sent_count v else v.executed) answers

  abbrev message : Packet
  message = message_again (to_of s c) (value_count d.base c) m

  message_mark : carries_data s c ≡ true → message.mark ≡ pos (number_on s v c)
  message_mark carries = giving_leaves (to_of s c) (value_count d.base c) (stored m message_number (m sendings)) message_number refl ∙ stands.sendings_are ∙ ap pos (sym (data_number carries))

  message_carries : from_of s c ≡ n → carries_data s c ≡ true → 0 < number_on s v c → CarriesNumber f.func l s rows c (number_on s v c) message
  message_carries from carries some = record {
    mark_is = message_mark carries;
    values_are = λ x lt ch.
        let from_x : (crossing_of l x).from ≡ n = sym (channels.from x lt) ∙ ap (from_of s) ch ∙ from in
        let to_x : (crossing_of l x).to ≡ to_of s c = sym (channels.to x lt) ∙ ap (to_of s) ch in
        let number = data_number carries in
        given_again (to_of s c) (value_count d.base c) (stored m message_number (m sendings)) (crossing_place l x) (place_in_channel l s channels x c lt ch)
        ∙ ap (λ j. m (posted j (crossing_place l x))) (sym to_x)
        ∙ stands.kept x lt from_x (omega (arith, some, number))
        ∙ ap (λ k. c_number (crossing_value f.func rows (crossing_of l x) k)) (sym number);
  }

  answer_carries : carries_data s c ≡ false → 0 < number_on s v c → CarriesNumber f.func l s rows c (number_on s v c) (answer_again m)
  answer_carries answers some = record {
    mark_is = stands.executions_are ∙ ap pos (sym (answer_number answers));
    values_are = λ x lt ch. absurd (let data_too : carries_data s c ≡ true = ap (carries_data s) (sym ch) ∙ channels.carries x lt in let no : true ≡ false = sym data_too ∙ answers in cc);
  }

  pub hands_out : (a b : Bool) → is_from s.channels n true c ≡ a → is_from s.channels n false c ≡ b →
      CarryNumbers f.func l s rows c (if a then where_numbered message else (if b then where_numbered (answer_again m) else [])) (sent_if d n at c v)
  hands_out true b h g =
      let p = from_parts s n c true h in
      one_packet f.func l s rows c at (number_on s v c) message (message_mark p.1) (message_carries p.0 p.1) (sends_number s n v c) (sends_is p.0)
  hands_out false true h g =
      let p = from_parts s n c false g in
      let answers = is_false (carries_data s c) p.1 in
      one_packet f.func l s rows c at (number_on s v c) (answer_again m) (stands.executions_are ∙ ap pos (sym (answer_number answers))) (answer_carries answers) (sends_number s n v c) (sends_is p.0)
  hands_out false false h g =
      subst (λ (z : Bool). CarryNumbers f.func l s rows c [] (if z then record { number = number_on s v c; sent_at = at } ∷ [] else []))
      (sym (ap (λ (b : Bool). b && nat_lt 0 (number_on s v c)) (from_other s n c h g))) tt

pub numbers_handed_out : NumbersHandedOut
numbers_handed_out f losses d is st n at c nb cb m stands =
    hands_out f losses d is st n at c cb m stands (is_from d.base.shape.channels n true c) (is_from d.base.shape.channels n false c) refl refl
