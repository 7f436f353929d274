-- Truth values alone are assigned to the variables that a file declares as bool.
use Rattle.std.proofs.Common.{◌≡◌, ℕ, zero, suc, ◌+◌, ◌<◌, ◌≤◌, Bool, true, false, List, [], ◌∷◌, ◌++◌, length, map, Option, Some, None, refl, sym, ap, ◌∙◌, subst, arith, zero-add, add-zero, eqb-true}
use Rattle.std.specs.Prelude.{◌==◌, ◌||◌, nat_eq, if◌then◌else◌}
use Rattle.std.specs.List.{All, AllByRecursion, list_any, slice_get}
use Rattle.std.proofs.lemmas.List.Elements.{All-head, All-tail}
use Rattle.lt_base.specs.declared.value.Ty.{Ty}
use Rattle.lt_base.specs.declared.value.Ty.TheVariants.{Int as IntTy, Bool as BoolTy}
use Rattle.lt_base.specs.declared.value.Value.{Value}
use Rattle.lt_base.specs.declared.value.Value.TheVariants.{Int, Bool as Truth}
use Rattle.lt_base.specs.declared.function.Decl.{Decl}
use Rattle.lt_base.specs.Value.{ty_of}
use Rattle.lt_base.specs.Expression.{Expression, literal, variable, unary, binary, imported, choose, sampled, merged, delayed, follow, arrow, call}
use Rattle.lt_base.specs.Program.{Function}
use Rattle.lt_base.specs.Meaning.{ClockPairs, clock_of}
use Rattle.lt_base.specs.Typing.{ty_at}
use Rattle.lt_arch.specs.declared.timing.Protocol.{Protocol}
use Rattle.lt_arch.specs.declared.timing.Protocol.TheVariants.{BackPressure, TimeBased}
use Rattle.lt_place_reads.specs.declared.crossing.Crossing.{Crossing}
use Rattle.lt_place.specs.declared.layout.Layout.{Layout}
use Rattle.lt_net_bench.proofs.Entries.{same_number, other_number}
use Rattle.lt_step.specs.Code.{KeepForm, StepCode}
use Rattle.lt_step.specs.Compile.{CodeOf, kept, next_slot, keeps_of, in_order, code_of}
use Rattle.lt_c.specs.Tree.{phase, Statement, perform}
use Rattle.lt_c.specs.Literals.{of_value}
use Rattle.lt_c.specs.Truths.{Types, c_type_of, IsTruthTree, AssignsTruths}
use Rattle.lt_c_step.specs.declared.sources.Source.{Source}
use Rattle.lt_c_step.specs.declared.sources.Output.{Output}
use Rattle.lt_c_step.specs.Part.{source_variable, feeding, telling, showing, clock_tree, part_step}
use Rattle.lt_c_step.specs.Typed.{SlotsTyped}
use Rattle.lt_c_control.specs.Control.{becomes, if_acked, read_data, read_acks, executing, sending}
use Rattle.lt_c_control.specs.Inboxes.{FirstData, taking, delivering, filling, starting_data, starting_acks, starting}
use Rattle.lt_c_net.specs.Emitted.{NodeCode, activation_under}
use Rattle.lt_c_heads.specs.declared.file.Peer.{Peer}
use Rattle.lt_c_bodies.specs.Acts.{peer_numbers}
use Rattle.lt_c_node.specs.NodeOf.{carried, values_between}
use Rattle.lt_c_files.specs.DeclaredTypes.{type_or, delay_type, slot_type_of, value_type, values_of_peer}

pub no_int : IntTy ≡ BoolTy → ⊥
no_int h = cc

-- ---- slots

-- slots of delays are numbered on
from_next : (s : ℕ) (e : Expression) → s ≤ next_slot s e
from_next s (delayed v a) = omega arith
from_next s (literal v) = omega arith
from_next s (variable x) = omega arith
from_next s (unary o a) = omega arith
from_next s (binary o a b) = omega arith
from_next s (imported o a b) = omega arith
from_next s (choose c a b) = omega arith
from_next s (sampled e c b) = omega arith
from_next s (merged c a b) = omega arith
from_next s (follow a b) = omega arith
from_next s (arrow a b) = omega arith
from_next s (call g args) = omega arith

-- a slot below the next one is that of no later delay
other_slot : (x s : ℕ) → x < s → (t : Ty) (rest : Ty) → (if s == x then t else rest) ≡ rest
other_slot x s lt t rest = ap (λ (b : Bool). if b then t else rest) (other_number s x (λ e. omega (arith, e, lt)))

-- the delays from slot s on have the types of what they begin with, also behind delays at slots before s
abbrev Found : (ℕ → Ty) → List KeepForm → Type 0
Found types ks = AllByRecursion (λ (k : KeepForm). types k.slot ≡ ty_of k.first) ks

-- a type that is asked for at another slot
weaker_found : (ds : List Decl) (f g : ℕ → Ty) (s : ℕ) → ((x : ℕ) → s ≤ x → f x ≡ g x) → (qs : List (ℕ × Expression)) (r : ℕ) → s ≤ r → Found f (keeps_of ds r qs) → Found g (keeps_of ds r qs)
weaker_found ds f g s same [] r le h = tt
weaker_found ds f g s same (q ∷ qs) r le h =
    by_form q.1 (λ k. weaker_found ds f g s same qs (next_slot r q.1) (let n = from_next r q.1 in omega (arith, n, le)) k) h
  where
    by_form : (e : Expression) → (Found f (keeps_of ds (next_slot r q.1) qs) → Found g (keeps_of ds (next_slot r q.1) qs)) →
        Found f (kept r (clock_of ds q.0) e ++ keeps_of ds (next_slot r q.1) qs) → Found g (kept r (clock_of ds q.0) e ++ keeps_of ds (next_slot r q.1) qs)
    by_form (delayed v a) rest h = (sym (same r le) ∙ h.0, rest h.1)
    by_form e rest h = rest h

delays_found : (ds : List Decl) (qs : List (ℕ × Expression)) (s : ℕ) → Found (delay_type (keeps_of ds s qs)) (keeps_of ds s qs)
delays_found ds [] s = tt
delays_found ds (q ∷ qs) s = by_form q.1 (delays_found ds qs (s + 1)) (delays_found ds qs s)
  where
    by_form : (e : Expression) → Found (delay_type (keeps_of ds (s + 1) qs)) (keeps_of ds (s + 1) qs) → Found (delay_type (keeps_of ds s qs)) (keeps_of ds s qs) →
        Found (delay_type (kept s (clock_of ds q.0) e ++ keeps_of ds (next_slot s e) qs)) (kept s (clock_of ds q.0) e ++ keeps_of ds (next_slot s e) qs)
    by_form (delayed v a) later same = (
      ap (λ (b : Bool). if b then ty_of v else delay_type (keeps_of ds (s + 1) qs) s) (same_number s),
      weaker_found ds (delay_type (keeps_of ds (s + 1) qs)) (λ x. if x == s then ty_of v else delay_type (keeps_of ds (s + 1) qs) x) (s + 1)
          (λ x le. sym (other_slot s x (omega (arith, le)) (ty_of v) (delay_type (keeps_of ds (s + 1) qs) x))) qs (s + 1) (omega arith) later,
    )
    by_form (literal v) later same = same
    by_form (variable x) later same = same
    by_form (unary o a) later same = same
    by_form (binary o a b) later same = same
    by_form (imported o a b) later same = same
    by_form (choose c a b) later same = same
    by_form (sampled e c b) later same = same
    by_form (merged c a b) later same = same
    by_form (follow a b) later same = same
    by_form (arrow a b) later same = same
    by_form (call g args) later same = same

ty_past : (ds : List Decl) (x : ℕ) → length ds ≤ x → ty_at ds x ≡ None
ty_past [] x le = refl
ty_past (d ∷ ds) zero le = absurd (omega (arith, le))
ty_past (d ∷ ds) (suc x) le = ty_past ds x (omega (arith, le))

pub ty_there : (ds : List Decl) (x : ℕ) → x < length ds → (t : Ty) × (ty_at ds x ≡ Some t)
ty_there [] x lt = absurd (omega (arith, lt))
ty_there (d ∷ ds) zero lt = (d.ty, refl)
ty_there (d ∷ ds) (suc x) lt = ty_there ds x (omega (arith, lt))

slots_found_in : (f : Function) (order : List ℕ) (types : ℕ → Ty) → ((x : ℕ) → types x ≡ slot_type_of f.decls (code_of f order).keeps x) → Found types (code_of f order).keeps
slots_found_in f order types same =
    let ks : List KeepForm = (code_of f order).keeps in
    weaker_found f.decls (delay_type ks) types (length f.decls)
    (λ x le. sym (same x ∙ ap (λ (o : Option Ty). type_or o (delay_type ks x)) (ty_past f.decls x le))) (in_order f.eqs order) (length f.decls) (omega arith)
    (delays_found f.decls (in_order f.eqs order) (length f.decls))

pub slots_typed : (f : Function) (code : StepCode) → CodeOf f code → (ts : Types) → ((x : ℕ) → ts.slot_type x ≡ slot_type_of f.decls code.keeps x) → SlotsTyped f code ts
slots_typed f code made ts is = record {
  variables = λ x t h. is x ∙ ap (λ (o : Option Ty). type_or o (delay_type code.keeps x)) h;
  delays = subst (λ (c : StepCode). ((x : ℕ) → ts.slot_type x ≡ slot_type_of f.decls c.keeps x) → Found ts.slot_type c.keeps) (sym made.is) (slots_found_in f made.order ts.slot_type) is;
}

-- ---- the step

pub or_int : (o : Option Ty) (u : Ty) → type_or o IntTy ≡ BoolTy → type_or o u ≡ BoolTy
or_int None u h = absurd (no_int h)
or_int (Some t) u h = h

pub or_other : (o : Option Ty) (t u v : Ty) → o ≡ Some t → type_or o u ≡ BoolTy → type_or o v ≡ BoolTy
or_other o t u v is h = ap (λ (o : Option Ty). type_or o v) is ∙ sym (ap (λ (o : Option Ty). type_or o u) is) ∙ h

pub or_type : (o : Option Ty) (t u : Ty) → o ≡ Some t → type_or o u ≡ BoolTy → t ≡ BoolTy
or_type o t u is h = sym (ap (λ (o : Option Ty). type_or o u) is) ∙ h

module _ (ts : Types) where
  -- all conditions of a clock are slots of the type bool
  abbrev pub BoolClock : ClockPairs → Type 0
  BoolClock ck = AllByRecursion (λ (p : ℕ × Bool). ts.slot_type p.0 ≡ BoolTy) ck

  clock_truth : (ck : ClockPairs) → BoolClock ck → IsTruthTree ts (clock_tree ck)
  clock_truth [] h = tt
  clock_truth ((c, true) ∷ []) h = h.0
  clock_truth ((c, false) ∷ []) h = tt
  clock_truth ((c, b) ∷ p ∷ ck) h = tt

  tells : (y : ℕ) (ck : ClockPairs) → BoolClock ck → AssignsTruths ts (telling y ck)
  tells y [] h = tt
  tells y (p ∷ ck) h = λ _. clock_truth (p ∷ ck) h

  -- what is shown has the type of its slot
  abbrev pub Showable : Output → Type 0
  Showable o = BoolClock o.guard × (ts.output_type o.output_number ≡ BoolTy → ts.slot_type o.from_slot ≡ BoolTy)

  pub showing_truths : (os : List Output) → AllByRecursion Showable os → AssignsTruths ts (showing os)
  showing_truths [] h = tt
  showing_truths (o ∷ os) h = ((tells o.output_number o.guard h.0.0, h.0.1), showing_truths os h.1)

  pub feeding_truths : (x : ℕ) (ss : List Source) → ((i : ℕ) (s : Source) → slice_get ss i ≡ Some s → ts.slot_type (x + i) ≡ BoolTy → c_type_of ts (source_variable s) ≡ BoolTy) → AssignsTruths ts (feeding x ss)
  feeding_truths x [] h = tt
  feeding_truths x (s ∷ ss) h = (
    λ b. h 0 s refl (ap ts.slot_type (add-zero x) ∙ b),
    feeding_truths (suc x) ss (λ i t e b. h (suc i) t e (ap ts.slot_type (moved x i) ∙ b)),
  )
    where
      moved : (x i : ℕ) → x + suc i ≡ suc x + i
      moved x i = omega arith

  -- ---- the controller

  reads : (js : List ℕ) → AssignsTruths ts (read_data js)
  reads [] = tt
  reads (j ∷ js) = (λ _. refl, reads js)

  acks_read : (js : List ℕ) → AssignsTruths ts (read_acks js)
  acks_read [] = tt
  acks_read (j ∷ js) = (λ _. refl, acks_read js)

  where_acked : (js : List ℕ) (s : Statement) → AssignsTruths ts s → AssignsTruths ts (if_acked js s)
  where_acked [] s h = h
  where_acked (j ∷ js) s h = (h, tt)

  executes : (ins : List ℕ) (run : Statement) → AssignsTruths ts run → AssignsTruths ts (executing ins run)
  executes ins run h = (h, (reads ins, (no_int, ((λ _. tt), no_int))))

  sends : (acks : List ℕ) (next : Statement) → AssignsTruths ts next → AssignsTruths ts (sending acks next)
  sends acks next h = (acks_read acks, (h, ((λ _. tt), no_int)))

  pub activation_truths : (p : Protocol) (send execute : ℕ) (node : NodeCode) → AssignsTruths ts (part_step node.sources node.outputs node.code) → AssignsTruths ts (activation_under p send execute node)
  activation_truths BackPressure send execute node h =
      (no_int, (where_acked node.acks (sending node.acks (becomes phase 0)) (sends node.acks (becomes phase 0) no_int), (executes node.ins (perform (part_step node.sources node.outputs node.code)) h, tt)))
  activation_truths TimeBased send execute node h =
      let ex = executes node.ins (perform (part_step node.sources node.outputs node.code)) h in
      (no_int, (((ex, no_int), tt), (((sends [] (becomes phase 2) no_int, no_int), no_int), (((ex, no_int), tt), no_int))))

  -- ---- the inboxes

  literal_truth : (v : Value) → ty_of v ≡ BoolTy → IsTruthTree ts (of_value v)
  literal_truth (Int n) h = absurd (no_int h)
  literal_truth (Truth b) h = tt

  filling_truths : (j k : ℕ) (vs : List Value) → ((i : ℕ) (v : Value) → slice_get vs i ≡ Some v → ts.payload_type j (k + i) ≡ BoolTy → ty_of v ≡ BoolTy) → AssignsTruths ts (filling j k vs)
  filling_truths j k [] h = tt
  filling_truths j k (v ∷ vs) h = (
    λ b. literal_truth v (h 0 v refl (ap (ts.payload_type j) (add-zero k) ∙ b)),
    filling_truths j (suc k) vs (λ i w e b. h (suc i) w e (ap (ts.payload_type j) (moved k i) ∙ b)),
  )
    where
      moved : (x i : ℕ) → x + suc i ≡ suc x + i
      moved x i = omega arith

  -- an inbox begins with values of its types
  abbrev pub Fillable : FirstData → Type 0
  Fillable d = (i : ℕ) (v : Value) → slice_get d.firsts i ≡ Some v → ts.payload_type d.from_node i ≡ BoolTy → ty_of v ≡ BoolTy

  inboxes_truths : (ds : List FirstData) → AllByRecursion Fillable ds → AssignsTruths ts (starting_data ds)
  inboxes_truths [] h = tt
  inboxes_truths (d ∷ ds) h =
      (((λ _. tt), ((λ _. tt), filling_truths d.from_node 0 d.firsts (λ i v e b. h.0 i v e (ap (ts.payload_type d.from_node) (sym (zero-add i)) ∙ b)))), inboxes_truths ds h.1)

  acks_start : (js : List ℕ) → AssignsTruths ts (starting_acks js)
  acks_start [] = tt
  acks_start (j ∷ js) = (((λ _. tt), (λ _. tt)), acks_start js)

  pub starting_truths : (ds : List FirstData) (js : List ℕ) (counts : Bool) → AllByRecursion Fillable ds → AssignsTruths ts (starting ds js counts)
  starting_truths ds js true h = (inboxes_truths ds h, (acks_start js, (no_int, (no_int, ((λ _. tt), (λ _. tt))))))
  starting_truths ds js false h = (inboxes_truths ds h, (acks_start js, (tt, (no_int, ((λ _. tt), (λ _. tt))))))

  taking_truths : (j count : ℕ) → ((k : ℕ) → ts.payload_type j k ≡ BoolTy → ts.message_type k ≡ BoolTy) → AssignsTruths ts (taking j count)
  taking_truths j zero h = tt
  taking_truths j (suc k) h = (taking_truths j k h, h k)

  pub delivering_truths : (j count : ℕ) → ((k : ℕ) → ts.payload_type j k ≡ BoolTy → ts.message_type k ≡ BoolTy) → AssignsTruths ts (delivering j count)
  delivering_truths j count h = (λ _. refl, taking_truths j count h)

-- ---- the values of messages

pub literal_typed : (l : Layout) (xs : List Crossing) (i : ℕ) (v : Value) → slice_get (map (λ (cr : Crossing). cr.first) xs) i ≡ Some v → value_type (map (carried l) xs) i ≡ ty_of v
literal_typed l [] i v h = absurd (cc)
literal_typed l (x ∷ xs) zero v h = ap ty_of (same_value x.first v h)
  where
    same_value : (a b : Value) → Some a ≡ Some b → a ≡ b
    same_value a b e = cc
literal_typed l (x ∷ xs) (suc i) v h = literal_typed l xs i v h

-- the values of a node are those between it and node n, where it is among the peers; and if not, there are none
pub values_there : (l : Layout) (n j : ℕ) (ps : List Peer) → list_any (nat_eq j) (peer_numbers ps) ≡ true → All (λ (p : Peer). p.values ≡ values_between l p.number n) ps → values_of_peer j ps ≡ values_between l j n
values_there l n j [] h are = absurd (cc)
values_there l n j (p ∷ ps) h are =
    by_number (nat_eq j p.number) refl (λ g. values_there l n j ps g (All-tail (λ (p : Peer). p.values ≡ values_between l p.number n) p ps are)) h
  where
    by_number : (b : Bool) → nat_eq j p.number ≡ b → (list_any (nat_eq j) (peer_numbers ps) ≡ true → values_of_peer j ps ≡ values_between l j n) → (b || list_any (nat_eq j) (peer_numbers ps)) ≡ true →
        (if b then p.values else values_of_peer j ps) ≡ values_between l j n
    by_number true e rest g = All-head (λ (p : Peer). p.values ≡ values_between l p.number n) p ps are ∙ ap (λ i. values_between l i n) (sym (eqb-true j p.number e))
    by_number false e rest g = rest g

pub values_typed : (l : Layout) (n j k : ℕ) (ps : List Peer) → All (λ (p : Peer). p.values ≡ values_between l p.number n) ps → value_type (values_of_peer j ps) k ≡ BoolTy → value_type (values_between l j n) k ≡ BoolTy
values_typed l n j k [] are h = absurd (no_int h)
values_typed l n j k (p ∷ ps) are h =
    by_number (nat_eq j p.number) refl (values_typed l n j k ps (All-tail (λ (p : Peer). p.values ≡ values_between l p.number n) p ps are)) h
  where
    by_number : (b : Bool) → nat_eq j p.number ≡ b → (value_type (values_of_peer j ps) k ≡ BoolTy → value_type (values_between l j n) k ≡ BoolTy) → value_type (if b then p.values else values_of_peer j ps) k ≡ BoolTy →
        value_type (values_between l j n) k ≡ BoolTy
    by_number true e rest g =
        sym (ap (λ vs. value_type vs k) (All-head (λ (p : Peer). p.values ≡ values_between l p.number n) p ps are ∙ ap (λ i. values_between l i n) (sym (eqb-true j p.number e)))) ∙ g
    by_number false e rest g = rest g
