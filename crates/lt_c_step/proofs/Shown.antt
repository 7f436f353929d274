-- What the emitted step shows.
use Rattle.std.proofs.Common.{◌≡◌, ℕ, zero, suc, ◌<◌, Bool, true, false, List, [], ◌∷◌, ◌++◌, length, map, reverse, Option, Some, None, refl, sym, ap, ◌∙◌, subst, arith}
use Rattle.std.specs.Prelude.{if◌then◌else◌}
use Rattle.std.proofs.lemmas.List.{reverse-append}
use Rattle.lt_base.specs.declared.value.Ty.{Ty}
use Rattle.lt_base.specs.declared.value.Ty.TheVariants.{Int as IntTy, Bool as BoolTy}
use Rattle.lt_base.specs.declared.value.Value.{Value}
use Rattle.lt_base.specs.declared.value.Value.TheVariants.{Int, Bool as Truth}
use Rattle.lt_base.specs.declared.value.Cell.TheVariants.{Absent, Here}
use Rattle.lt_base.specs.declared.function.Decl.{Decl}
use Rattle.lt_base.specs.Value.{ty_of}
use Rattle.lt_base.specs.Program.{Function, GoodFunction}
use Rattle.lt_base.specs.Meaning.{Environment, Row, clock_of, present, here, cell, stream_of}
use Rattle.lt_base.specs.Typing.{ty_at, input_types, TypedFunction, HasType, AllFit}
use Rattle.lt_base.specs.Clocking.{ClockedFunction}
use Rattle.lt_base.specs.Defined.{DefinedAt}
use Rattle.lt_base.specs.Behaviour.{calls_of, newest_first, RowsFit}
use Rattle.lt_base.specs.Solution.{Solves}
use Rattle.lt_base.proofs.Defined.{fit_reverse}
use Rattle.lt_base.proofs.Streams.{stream_is}
use Rattle.lt_cause.specs.Orders.{IsOrder}
use Rattle.lt_cause.proofs.Places.{order_causal}
use Rattle.lt_norm.specs.Flat.{FlatFunction}
use Rattle.lt_step.specs.Code.{StepCode}
use Rattle.lt_step.specs.Compile.{code_of}
use Rattle.lt_step.specs.Run.{at_instant, slots_after, instants}
use Rattle.lt_step.proofs.Solved.{solves}
use Rattle.lt_c.specs.Tree.{slot}
use Rattle.lt_c.specs.Meaning.{Store}
use Rattle.lt_c_step.specs.Laws.{Matches, store_when_read, store_after, stores, value_as, shown, shown_stream, StepShowsStreams}
use Rattle.lt_c.specs.Literals.{c_number}
use Rattle.lt_c_step.proofs.Statements.{Told, guard_same}
use Rattle.lt_c_step.proofs.Steps.{defined, fine_at, row_matches, store_matches, wide}

-- the value that a value's number stands for
back : (v : Value) (t : Ty) → ty_of v ≡ t → value_as (Some t) (c_number v) ≡ v
back (Int z) IntTy h = refl
back (Int z) BoolTy h = absurd (cc)
back (Truth b) IntTy h = absurd (cc)
back (Truth true) BoolTy h = refl
back (Truth false) BoolTy h = refl

-- a declared variable has a type
ty_there : (ds : List Decl) (y : ℕ) → y < length ds → (t : Ty) × (ty_at ds y ≡ Some t)
ty_there [] y l = absurd (omega arith)
ty_there (d ∷ ds) zero l = (d.ty, refl)
ty_there (d ∷ ds) (suc y) l = ty_there ds y (omega arith)

value_there : (o : Option Value) (t : Ty) → HasType o t → (v : Value) × (o ≡ Some v) × (ty_of v ≡ t)
value_there None t h = elim h [ ]
value_there (Some v) t h = (v, refl, h)

-- what an output shows is its cell
pub shown_cell : (ds : List Decl) (y : ℕ) → y < length ds → (env : Environment) (m : Store) → Matches env m → Told env (clock_of ds y) → ((x : ℕ) → DefinedAt ds env x) → shown ds y m ≡ cell env (clock_of ds y) y
shown_cell ds y l env m k t d =
    ap (λ (b : Bool). if b then Here (value_as (ty_at ds y) (m (slot y))) else Absent) (guard_same env m k (clock_of ds y) t)
    ∙ go (present env (clock_of ds y)) refl
  where
    go : (b : Bool) → present env (clock_of ds y) ≡ b → (if b then Here (value_as (ty_at ds y) (m (slot y))) else Absent) ≡ (if b then here (env y) else Absent)
    go false e = refl
    go true e =
        let u = ty_there ds y l in
        let w = value_there (env y) u.0 (d y u.0 l u.1 e) in
        let n : m (slot y) ≡ c_number w.0 = k y w.0 w.1 in
        (λ i. Here (value_as (u.1 i) (n i))) ∙ ap Here (back w.0 u.0 w.2) ∙ ap here (sym w.1)

map_back : {A B : Type 0} (g : A → B) (xs : List A) (x : A) → map g (xs ++ x ∷ []) ≡ map g xs ++ g x ∷ []
map_back g [] x = refl
map_back g (y ∷ xs) x = ap (λ l. g y ∷ l) (map_back g xs x)

map_reverse : {A B : Type 0} (g : A → B) (xs : List A) → map g (reverse xs) ≡ reverse (map g xs)
map_reverse g [] = refl
map_reverse g (x ∷ xs) =
    ap (map g) (reverse-append (x ∷ []) xs) ∙ map_back g (reverse xs) x ∙ ap (λ l. l ++ g x ∷ []) (map_reverse g xs)
    ∙ sym (reverse-append (g x ∷ []) (map g xs))

module _ (f : Function) (good : GoodFunction f) (flat : FlatFunction f) (typed : TypedFunction [] f) (clocked : ClockedFunction [] f) (order : List ℕ) (is : IsOrder f order) where
  abbrev code : StepCode
  code = code_of f order

  abbrev rows_of : List (List Value) → List Row
  rows_of rows = map (map Some) rows

  cells_shown : (m : Store) (rows : List (List Value)) → AllFit (input_types f) (rows_of rows) → (y : ℕ) → y < length f.decls → map (shown f.decls y) (stores code m rows) ≡ map (λ env. cell env (clock_of f.decls y) y) (instants code (rows_of rows))
  cells_shown m [] fits y l = refl
  cells_shown m (row ∷ rows) fits y l =
      let slots = slots_after code (rows_of rows) in
      let env = at_instant code (map Some row) slots in
      let store = store_when_read code row (store_after code m rows) in
      let one = shown_cell f.decls y l env store
      (row_matches f good flat typed clocked order is row slots (store_after code m rows) (store_matches f good flat typed clocked order is m rows fits.1))
      (fine_at f good flat typed clocked order is row rows fits y)
      (defined f good flat typed clocked order is (row ∷ rows) fits).0 in
      let rest = cells_shown m rows fits.1 y l in
      λ i. one i ∷ rest i

  pub streams_shown : (m : Store) (rows : List (List Value)) → RowsFit f rows → (y : ℕ) → y < length f.decls → shown_stream f code m rows y ≡ stream_of [] f rows y
  streams_shown m rows fits y l =
      let turned : rows_of (reverse rows) ≡ newest_first rows = map_reverse (map Some) rows in
      let ok : AllFit (input_types f) (rows_of (reverse rows)) = subst (AllFit (input_types f)) (sym turned) (fit_reverse (input_types f) (rows_of rows) fits) in
      ap reverse (cells_shown m (reverse rows) ok y l)
      ∙ ap (λ rs. reverse (map (λ env. cell env (clock_of f.decls y) y) (instants code rs))) turned
      ∙ stream_is [] f (order_causal f order is) clocked rows (instants code (newest_first rows))
      (subst (λ rs. Solves (calls_of []) f (instants code rs) rs) turned (solves f good flat clocked order is (rows_of (reverse rows)) (wide f good flat typed clocked order is (reverse rows) ok))) y l

-- whatever the variables held before, the emitted step shows the streams of the function
pub shows_streams : StepShowsStreams
shows_streams f c made m rows fits y l =
    subst (λ code. shown_stream f code m rows y ≡ stream_of [] f rows y) (sym made.is)
    (streams_shown f made.good made.flat made.typed made.clocked made.order made.is_order m rows fits y l)
