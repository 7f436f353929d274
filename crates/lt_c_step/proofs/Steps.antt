-- The store at each instant has what the slots have.
use Rattle.std.proofs.Common.{◌≡◌, ℕ, zero, suc, ◌+◌, ◌<◌, ◌≤◌, Bool, true, false, List, [], ◌∷◌, ◌++◌, length, map, take, Option, Some, None, refl, sym, ap, ◌∙◌, subst, arith}
use Rattle.std.specs.Prelude.{nat_lt, slice_index_or, if◌then◌else◌}
use Rattle.std.specs.List.{All, AllByRecursion}
use Rattle.std.proofs.lemmas.List.{length-map}
use Rattle.std.proofs.Math.Seq.{length-take-le}
use Rattle.std.proofs.lemmas.List.Elements.{recursion_from_All, All-head, All-tail}
use Rattle.lt_base.specs.declared.value.Ty.{Ty}
use Rattle.lt_base.specs.declared.value.Ty.TheVariants.{Bool as BoolTy}
use Rattle.lt_base.specs.declared.value.Value.{Value}
use Rattle.lt_base.specs.declared.value.Value.TheVariants.{Int, Bool as Truth}
use Rattle.lt_base.specs.declared.function.Decl.{Decl}
use Rattle.lt_base.specs.Expression.{Expression, literal, variable, unary, binary, imported, choose, sampled, merged, delayed, follow, arrow, call}
use Rattle.lt_base.specs.Program.{Function, GoodFunction}
use Rattle.lt_base.specs.Meaning.{ClockPairs, Environment, Row, clock_of, entry, present}
use Rattle.lt_base.specs.Order.{EachClockVar}
use Rattle.lt_base.specs.Calls.{EachCall}
use Rattle.lt_base.specs.Typing.{ty_at, input_types, TypedFunction, HasType, RowFits, AllFit}
use Rattle.lt_base.specs.Clocking.{WellFormed, ClockedFunction}
use Rattle.lt_base.specs.Defined.{DefinedAt, AllDefined}
use Rattle.lt_base.specs.Behaviour.{calls_of}
use Rattle.lt_base.proofs.Lookups.{right_all}
use Rattle.lt_base.proofs.Solution.{present_local}
use Rattle.lt_base.proofs.Defined.{callless_defined}
use Rattle.lt_cause.specs.Orders.{IsOrder}
use Rattle.lt_cause.proofs.Places.{order_causal}
use Rattle.lt_norm.specs.Flat.{Direct, FlatRight, FlatFunction}
use Rattle.lt_step.specs.Code.{LetForm, KeepForm, StepCode, GoodLet, GoodKeep}
use Rattle.lt_step.specs.Run.{guarded_value, after_keep, with_row, at_instant, slots_after, instants}
use Rattle.lt_step.specs.Compile.{in_order, kept, next_slot, keeps_of, code_of}
use Rattle.lt_step.proofs.Lets.{updated_other}
use Rattle.lt_step.proofs.Codes.{clocks_below}
use Rattle.lt_step.proofs.Slotted.{good_code}
use Rattle.lt_step.proofs.Solved.{Wide, solves}
use Rattle.lt_c.specs.Tree.{slot}
use Rattle.lt_c.specs.Meaning.{Store}
use Rattle.lt_c_step.specs.Laws.{Matches, with_inputs, store_when_read, store_after}
use Rattle.lt_c.specs.Literals.{c_number}
use Rattle.lt_c_step.proofs.Statements.{Told, AllTold, lets_match, keeps_match, firsts_match}

-- ---- what follows of the types and clocks

-- no flat right side has a call
direct_callless : (e : Expression) → Direct e → EachCall (λ g. ⊥) e
direct_callless (literal v) d = tt
direct_callless (variable x) d = tt
direct_callless (unary o a) d = direct_callless a d
direct_callless (binary o a b) d = (direct_callless a d.0, direct_callless b d.1)
direct_callless (imported o a b) d = (direct_callless a d.0, direct_callless b d.1)
direct_callless (choose c a b) d = (direct_callless c d.0, direct_callless a d.1, direct_callless b d.2)
direct_callless (sampled e c b) d = direct_callless e d
direct_callless (merged c a b) d = (direct_callless a d.0, direct_callless b d.1)
direct_callless (delayed v e) d = elim d [ ]
direct_callless (follow a b) d = elim d [ ]
direct_callless (arrow a b) d = elim d [ ]
direct_callless (call g args) d = elim d [ ]

flat_callless : (e : Expression) → FlatRight e → EachCall (λ g. ⊥) e
flat_callless (delayed v a) d = direct_callless a d
flat_callless (literal v) d = tt
flat_callless (variable x) d = tt
flat_callless (unary o a) d = direct_callless (unary o a) d
flat_callless (binary o a b) d = direct_callless (binary o a b) d
flat_callless (imported o a b) d = direct_callless (imported o a b) d
flat_callless (choose c a b) d = direct_callless (choose c a b) d
flat_callless (sampled e c b) d = direct_callless (sampled e c b) d
flat_callless (merged c a b) d = direct_callless (merged c a b) d
flat_callless (follow a b) d = elim d [ ]
flat_callless (arrow a b) d = elim d [ ]
flat_callless (call g args) d = elim d [ ]

-- the rows have a value for each input
row_length : (ts : List Ty) (row : List Value) → RowFits ts (map Some row) → length row ≡ length ts
row_length [] [] fits = refl
row_length [] (v ∷ row) fits = absurd fits
row_length (t ∷ ts) [] fits = absurd fits
row_length (t ∷ ts) (v ∷ row) fits = ap suc (row_length ts row fits.1)

rows_wide : (ts : List Ty) (rows : List (List Value)) → AllFit ts (map (map Some) rows) → Wide (length ts) (map (map Some) rows)
rows_wide ts [] fits = tt
rows_wide ts (row ∷ rows) fits = (length-map row Some ∙ row_length ts row fits.0, rows_wide ts rows fits.1)

inputs_number : (f : Function) → GoodFunction f → length (input_types f) ≡ f.n_in
inputs_number f good = length-map (take f.n_in f.decls) (λ (d : Decl). d.ty) ∙ length-take-le f.n_in f.decls good.inputs

-- a truth value, where a variable has a value of that type
truth_there : (o : Option Value) → HasType o BoolTy → (t : Bool) × (o ≡ Some (Truth t))
truth_there None h = elim h [ ]
truth_there (Some (Truth t)) h = (t, refl)
truth_there (Some (Int n)) h = absurd (cc)

-- each of the clock's variables is a bool
abbrev AreBools : List Decl → ClockPairs → Type 0
AreBools ds [] = Unit {0}
AreBools ds ((c, b) ∷ ck) = (ty_at ds c ≡ Some BoolTy) × AreBools ds ck

bools_of : (ds : List Decl) (ck : ClockPairs) → AllByRecursion (λ p. ty_at ds p.0 ≡ Some BoolTy) ck → AreBools ds ck
bools_of ds [] a = tt
bools_of ds ((c, b) ∷ ck) a = (a.0, bools_of ds ck a.1)

clock_bools : (all ds : List Decl) → All (λ d. All (λ p. ty_at all p.0 ≡ Some BoolTy) d.clock) ds → (x : ℕ) → AreBools all (clock_of ds x)
clock_bools all [] a x = tt
clock_bools all (d ∷ ds) a zero = bools_of all d.clock (recursion_from_All (λ p. ty_at all p.0 ≡ Some BoolTy) d.clock (All-head (λ (d : Decl). All (λ p. ty_at all p.0 ≡ Some BoolTy) d.clock) d ds a))
clock_bools all (d ∷ ds) a (suc x) = clock_bools all ds (All-tail (λ (d : Decl). All (λ p. ty_at all p.0 ≡ Some BoolTy) d.clock) d ds a) x

-- where each variable that is present has a value of its type, clocks are told
told_clock : (ds : List Decl) (env : Environment) → ((x : ℕ) → DefinedAt ds env x) → (ck : ClockPairs) → WellFormed ds ck → AreBools ds ck → Told env ck
told_clock ds env defined [] w b = tt
told_clock ds env defined ((c, p) ∷ ck) w b =
    (told_clock ds env defined ck w.2 b.1, (λ h. truth_there (env c) (defined c BoolTy w.0 b.0 (ap (present env) w.1 ∙ h))))

-- ---- keeps change no slot of a clock

told_local : (env env' : Environment) (ck : ClockPairs) → EachClockVar (λ y. env' y ≡ env y) ck → Told env ck → Told env' ck
told_local env env' [] e t = tt
told_local env env' ((c, b) ∷ ck) e t =
    (told_local env env' ck e.1 t.0, (λ h. let u = t.1 (sym (present_local ck env' env e.1) ∙ h) in (u.0, e.0 ∙ u.1)))

-- all clocks are told
abbrev pub Fine : List Decl → Environment → Type 0
Fine ds env = (x : ℕ) → Told env (clock_of ds x)

each_below : (n : ℕ) (env env' : Environment) → ((y : ℕ) → y < n → env' y ≡ env y) → (ck : ClockPairs) → EachClockVar (λ y. y < n) ck → EachClockVar (λ y. env' y ≡ env y) ck
each_below n env env' h [] e = tt
each_below n env env' h ((c, b) ∷ ck) e = (h c e.0, each_below n env env' h ck e.1)

module _ (f : Function) (good : GoodFunction f) (flat : FlatFunction f) where
  keep_fine : (k : KeepForm) (env : Environment) → length f.decls ≤ k.slot → Fine f.decls env → Fine f.decls (after_keep k env)
  keep_fine k env l fine x =
      told_local env (after_keep k env) (clock_of f.decls x)
      (each_below (length f.decls) env (after_keep k env) (λ y b. updated_other env k.slot (guarded_value env k.guard k.operand (env k.slot)) y (λ e. omega (arith, e, b, l))) (clock_of f.decls x) (clocks_below f good flat x))
      (fine x)

  one_told : (q : ℕ) (e : Expression) (qs : List (ℕ × Expression)) (s : ℕ) → length f.decls ≤ s → (env : Environment) → Fine f.decls env → ((t : ℕ) → length f.decls ≤ t → (env' : Environment) → Fine f.decls env' → AllTold (keeps_of f.decls t qs) env') → AllTold (kept s (clock_of f.decls q) e ++ keeps_of f.decls (next_slot s e) qs) env
  one_told q (delayed v a) qs s l env fine rest =
      (fine q, rest (s + 1) (omega arith) _ (keep_fine (record { slot = s; guard = clock_of f.decls q; operand = a; first = v }) env l fine))
  one_told q e qs s l env fine rest = rest s l env fine

  pub all_told : (qs : List (ℕ × Expression)) (s : ℕ) → length f.decls ≤ s → (env : Environment) → Fine f.decls env → AllTold (keeps_of f.decls s qs) env
  all_told [] s l env fine = tt
  all_told (q ∷ qs) s l env fine = one_told q.0 q.1 qs s l env fine (all_told qs)

-- ---- inputs

abbrev the : Value → Option Value → Value
the d None = d
the d (Some v) = v

entry_number : (row : List Value) (x : ℕ) (v : Value) → entry (map Some row) x ≡ Some v → c_number (slice_index_or row x (Truth false)) ≡ c_number v
entry_number [] x v h = absurd (cc)
entry_number (w ∷ row) zero v h = ap c_number (ap (the w) h)
entry_number (w ∷ row) (suc x) v h = entry_number row x v h

inputs_match : (row : List Value) (env : Environment) (m : Store) → Matches env m → Matches (with_row (map Some row) env) (with_inputs row m)
inputs_match row env m k x v h = go (nat_lt x (length row)) refl
  where
    same : length (map Some row) ≡ length row
    same = length-map row Some

    go : (b : Bool) → nat_lt x (length row) ≡ b → with_inputs row m (slot x) ≡ c_number v
    go true e =
        ap (λ (b : Bool). if b then c_number (slice_index_or row x (Truth false)) else m (slot x)) e
        ∙ entry_number row x v (sym (ap (λ (b : Bool). if b then entry (map Some row) x else env x) (ap (nat_lt x) same ∙ e)) ∙ h)
    go false e =
        ap (λ (b : Bool). if b then c_number (slice_index_or row x (Truth false)) else m (slot x)) e
        ∙ k x v (sym (ap (λ (b : Bool). if b then entry (map Some row) x else env x) (ap (nat_lt x) same ∙ e)) ∙ h)

-- ---- instants

lets_direct : (n : ℕ) (ls : List LetForm) → AllByRecursion (GoodLet n) ls → AllByRecursion (λ l. Direct l.operand) ls
lets_direct n [] a = tt
lets_direct n (l ∷ ls) a = (a.0.direct, lets_direct n ls a.1)

keeps_direct : (n : ℕ) (ks : List KeepForm) → AllByRecursion (GoodKeep n) ks → AllByRecursion (λ k. Direct k.operand) ks
keeps_direct n [] a = tt
keeps_direct n (k ∷ ks) a = (a.0.direct, keeps_direct n ks a.1)

module _ (f : Function) (good : GoodFunction f) (flat : FlatFunction f) (typed : TypedFunction [] f) (clocked : ClockedFunction [] f) (order : List ℕ) (is : IsOrder f order) where
  abbrev code : StepCode
  code = code_of f order

  abbrev rows_of : List (List Value) → List Row
  rows_of rows = map (map Some) rows

  pub wide : (rows : List (List Value)) → AllFit (input_types f) (rows_of rows) → Wide f.n_in (rows_of rows)
  wide rows fits = subst (λ n. Wide n (rows_of rows)) (inputs_number f good) (rows_wide (input_types f) rows fits)

  -- at each instant each variable that is present has a value of its type
  pub defined : (rows : List (List Value)) → AllFit (input_types f) (rows_of rows) → AllDefined f.decls (instants code (rows_of rows))
  defined rows fits =
      callless_defined [] f (calls_of []) good (order_causal f order is) clocked typed
      (λ x e h. flat_callless e (right_all (λ q. FlatRight q.1) f.eqs flat x e h))
      (instants code (rows_of rows)) (rows_of rows)
      (solves f good flat clocked order is (rows_of rows) (wide rows fits)) fits

  -- so clocks are told
  pub fine_at : (row : List Value) (rows : List (List Value)) → AllFit (input_types f) (rows_of (row ∷ rows)) → Fine f.decls (at_instant code (map Some row) (slots_after code (rows_of rows)))
  fine_at row rows fits x =
      told_clock f.decls (at_instant code (map Some row) (slots_after code (rows_of rows))) (defined (row ∷ rows) fits).0
      (clock_of f.decls x) (clocked.clocks x) (clock_bools f.decls f.decls typed.clocks x)

  pub own_lets : AllByRecursion (λ l. Direct l.operand) code.lets
  own_lets = lets_direct code.slots code.lets (recursion_from_All (GoodLet code.slots) code.lets (good_code f good flat order).lets)

  pub own_keeps : AllByRecursion (λ k. Direct k.operand) code.keeps
  own_keeps = keeps_direct code.slots code.keeps (recursion_from_All (GoodKeep code.slots) code.keeps (good_code f good flat order).keeps)

  -- when the outputs are read
  pub row_matches : (row : List Value) (env : Environment) (m : Store) → Matches env m → Matches (at_instant code (map Some row) env) (store_when_read code row m)
  row_matches row env m k = lets_match code.lets (with_row (map Some row) env) (with_inputs row m) (inputs_match row env m k) own_lets

  -- after the instants of these rows
  pub store_matches : (m : Store) (rows : List (List Value)) → AllFit (input_types f) (rows_of rows) → Matches (slots_after code (rows_of rows)) (store_after code m rows)
  store_matches m [] fits = firsts_match code.keeps (λ _. None) m (λ x v h. absurd (cc))
  store_matches m (row ∷ rows) fits =
      let env = slots_after code (rows_of rows) in
      keeps_match code.keeps (at_instant code (map Some row) env) (store_when_read code row (store_after code m rows))
      (row_matches row env (store_after code m rows) (store_matches m rows fits.1))
      own_keeps
      (all_told f good flat (in_order f.eqs order) (length f.decls) (omega arith) (at_instant code (map Some row) env) (fine_at row rows fits))
