-- The table of a program, row by row.
use Rattle.std.proofs.Common.{◌≡◌, ℕ, zero, suc, ◌+◌, ◌<◌, ◌≤◌, ◌≢◌, ◌⊎◌, inl, inr, List, [], ◌∷◌, ◌++◌, length, map, reverse, take, get_or, Option, Some, MatchOption, refl, sym, ap, subst, ◌∙◌, arith, add-one}
use Rattle.std.specs.Prelude.{slice_get}
use Rattle.std.specs.List.{All}
use Rattle.std.specs.Option.{option_and_then}
use Rattle.std.proofs.Math.Seq.{take-suc}
use Rattle.std.proofs.lemmas.List.{map-append, reverse-append, length-map, length-append, length-take, take_all, get_or-map}
use Rattle.std.proofs.lemmas.List.Elements.{All-get_or}
use Rattle.std.proofs.lemmas.Option.{slice_get_within, get_or_from_slice_get}
use Rattle.lt_base.specs.declared.value.Ty.{Ty}
use Rattle.lt_base.specs.declared.value.Value.{Value}
use Rattle.lt_base.specs.declared.value.Cell.{Cell}
use Rattle.lt_base.specs.declared.function.Decl.{Decl}
use Rattle.lt_base.specs.Expression.{Expression, literal, variable, unary, binary, imported, choose, sampled, merged, delayed, follow, arrow, call, Arguments, no_arguments, argument}
use Rattle.lt_base.specs.Program.{Function, GoodFunction, WholeProgram, GoodProgram}
use Rattle.lt_base.specs.Inputs.{InputTable, entry_at}
use Rattle.lt_base.specs.Meaning.{Row, Environment, clock_of, function_of, cell, stream_of}
use Rattle.lt_base.specs.Typing.{RowFits, AllFit, input_types, ty_at}
use Rattle.lt_base.specs.Calls.{EachCall, EachArgumentCall}
use Rattle.lt_base.specs.Solution.{Solves}
use Rattle.lt_base.specs.Behaviour.{calls_of, newest_first, CellFits}
use Rattle.lt_base.specs.Checked.{CheckedProgram, EachUse, EachArgumentUse, AnswersCall}
use Rattle.lt_base.proofs.Lookups.{function_all, function_below, function_there, right_all}
use Rattle.lt_base.proofs.Behaviour.{one_behaviour}
use Rattle.lt_base.proofs.Heights.{height_of, height_low, layered}
use Rattle.lt_base.proofs.Defined.{good_function, clocked_function, causal_function}
use Rattle.lt_base.proofs.Streams.{stream_is}
use Rattle.lt_meaning.specs.declared.plan.Plan.{Plan}
use Rattle.lt_meaning.specs.declared.state.State.{State}
use Rattle.lt_meaning.specs.Plan.{plan_inputs, inputs_at}
use Rattle.lt_meaning.specs.Fine.{FunctionPasses}
use Rattle.lt_meaning.specs.Planned.{PlanOf, PlanAt, Planned}
use Rattle.lt_meaning.specs.Stands.{cells_of, StateStands}
use Rattle.lt_meaning.specs.Ready.{ArePlans, AreOfMain}
use Rattle.lt_base.specs.Main.{main_of, streams_at, HasOutputStreams, InputsFit, InputsFitMain}
use Rattle.lt_meaning.specs.Streams.{HasStreams, HasMainStreams, HasStreamsOf, HasTypes, HasMainTypes}
use Rattle.lt_meaning.proofs.Standing.{get_left, get_right}
use Rattle.lt_meaning.proofs.Running.{nat_same}
use Rattle.lt_meaning.proofs.Columns.{row_filled, columns_by_place}

-- ---- the plans

module _ (P : ℕ → ℕ → Type 0) (Q : ℕ → Type 0) where
  mutual
    use_both : (e : Expression) → EachUse P e → EachCall Q e → EachUse (λ g n. P g n × Q g) e
    use_both (literal v) a b = tt
    use_both (variable x) a b = tt
    use_both (unary o d) a b = use_both d a b
    use_both (binary o d e) a b = (use_both d a.0 b.0, use_both e a.1 b.1)
    use_both (imported o d e) a b = (use_both d a.0 b.0, use_both e a.1 b.1)
    use_both (choose c d e) a b = (use_both c a.0 b.0, use_both d a.1 b.1, use_both e a.2 b.2)
    use_both (sampled e c t) a b = use_both e a b
    use_both (merged c d e) a b = (use_both d a.0 b.0, use_both e a.1 b.1)
    use_both (delayed v e) a b = use_both e a b
    use_both (follow d e) a b = (use_both d a.0 b.0, use_both e a.1 b.1)
    use_both (arrow d e) a b = (use_both d a.0 b.0, use_both e a.1 b.1)
    use_both (call g args) a b = ((a.0, b.0), arguments_both args a.1 b.1)

    arguments_both : (args : Arguments) → EachArgumentUse P args → EachArgumentCall Q args → EachArgumentUse (λ g n. P g n × Q g) args
    arguments_both no_arguments a b = tt
    arguments_both (argument e args) a b = (use_both e a.0 b.0, arguments_both args a.1 b.1)

module _ (p : WholeProgram) (good : GoodProgram p) (checked : CheckedProgram p) where
  abbrev pub height : ℕ → ℕ
  height = height_of p.funcs checked.named.not_recursive

  pub passes_of : (g : ℕ) (f : Function) → function_of p.funcs g ≡ Some f → FunctionPasses p.funcs height (height g) f
  passes_of g f is = record {
    clocked = clocked_function p good checked g f is;
    uses = λ x e r. use_both (λ g n. AnswersCall (function_of p.funcs g) n) (λ h. height h < height g) e
        (right_all (λ q. EachUse (λ g n. AnswersCall (function_of p.funcs g) n) q.1) f.eqs (function_all (λ f. All (λ e. EachUse (λ g n. AnswersCall (function_of p.funcs g) n) e.1) f.eqs) p.funcs checked.named.uses g f is) x e r)
        ((layered p.funcs checked.named.not_recursive good.calls).lower g f is x e r);
  }

  -- the first functions have plans
  pub record Far (plans : List Plan) (i : ℕ) : Type 0 where
    pub number : length plans ≡ i
    pub plans_are : (g : ℕ) (f : Function) → g < i → function_of p.funcs g ≡ Some f → PlanAt p.funcs height f plans g

  pub far_none : (plans : List Plan) → plans ≡ [] → Far plans 0
  far_none plans e = record { number = ap length e; plans_are = λ g f l. absurd (omega arith) }

  pub far_next : (plans plans' : List Plan) (i : ℕ) (f : Function) (plan : Plan) → Far plans i → function_of p.funcs i ≡ Some f
      → ((fs : List Function) (height : ℕ → ℕ) (top : ℕ) → FunctionPasses fs height top f → PlanOf fs height top f plan) → plans' ≡ plans ++ plan ∷ [] → Far plans' (i + 1)
  far_next plans plans' i f plan far is made e = record {
    number = let n = far.number in let l = ap length e in let t = length-append plans (plan ∷ []) in omega (arith, n, l, t);
    plans_are = λ g h l k.
        let go : (g ≡ i) ⊎ (g ≢ i) → PlanAt p.funcs height h plans' g =
        elim [
          | inl q ↦
              let same : f ≡ h = cc (is, k, ap (function_of p.funcs) q) in
              let n = far.number in
              record {
                plan = plan;
                is = ap (λ l. slice_get l g) e ∙ get_right plans (plan ∷ []) 0 g (omega (arith, n, q));
                plan_of = subst (λ (h : Function). PlanOf p.funcs height (height g) h plan) same (subst (λ n. PlanOf p.funcs height (height n) f plan) (sym q) (made p.funcs height (height i) (passes_of i f is)));
              }
          | inr ne ↦
              let old = far.plans_are g h (omega (arith, l, ne)) k in
              record { plan = old.plan; is = ap (λ l. slice_get l g) e ∙ get_left plans (plan ∷ []) g old.plan old.is; plan_of = old.plan_of }
        ] in
        go (nat_same g i);
  }

  pub are_plans : (plans : List Plan) (i : ℕ) → Far plans i → length p.funcs ≤ i → i ≤ length p.funcs → ArePlans p plans
  are_plans plans i far low high = record {
    planned = record { program = p; good = good; checked = checked; height = height; plan = λ g f is. let l = function_below p.funcs g f is in far.plans_are g f (omega (arith, l, low)) is };
    is = refl;
    number = let n = far.number in omega (arith, n, low, high);
    low = λ g l. height_low p.funcs checked.named.not_recursive g l;
  }

pub function_at : (fs : List Function) (i : ℕ) (f : Function) → i < length fs → f ≡ get_or fs i f → function_of fs i ≡ Some f
function_at [] i f l e = absurd (omega arith)
function_at (h ∷ fs) zero f l e = ap Some (sym e)
function_at (h ∷ fs) (suc i) f l e = function_at fs i f (omega arith) e

-- ---- the rows

row_fits : (ts : List Ty) (rows : List (List Value)) (k : ℕ) (row : List Value) → AllFit ts (map (map Some) rows) → slice_get rows k ≡ Some row → RowFits ts (map Some row)
row_fits ts [] k row fit h = absurd (cc)
row_fits ts (r ∷ rows) zero row fit h = let same : r ≡ row = cc in subst (λ (r : List Value). RowFits ts (map Some r)) same fit.0
row_fits ts (r ∷ rows) (suc k) row fit h = row_fits ts rows k row fit.1 h

row_length : (ts : List Ty) (vs : Row) → RowFits ts vs → length vs ≡ length ts
row_length [] [] h = refl
row_length [] (v ∷ vs) h = elim h [ ]
row_length (t ∷ ts) [] h = elim h [ ]
row_length (t ∷ ts) (v ∷ vs) h = ap suc (row_length ts vs h.1)

-- a row that fits has a value for each input
pub row_width : (f : Function) → GoodFunction f → (rows : List (List Value)) (k : ℕ) (row : List Value) → AllFit (input_types f) (map (map Some) rows) → slice_get rows k ≡ Some row → length row ≡ f.n_in
row_width f good rows k row fit h =
    let a = row_length (input_types f) (map Some row) (row_fits (input_types f) rows k row fit h) in
    let b = length-map row Some in
    let d = length-map (take f.n_in f.decls) (λ (d : Decl). d.ty) in
    let t = length-take f.n_in f.decls in
    let i = good.inputs in
    omega (arith, a, b, d, t, i)

pub newest_next : (rows : List (List Value)) (k : ℕ) (row : List Value) → slice_get rows k ≡ Some row → newest_first (take (k + 1) rows) ≡ map Some row ∷ newest_first (take k rows)
newest_next rows k row h =
    let l = slice_get_within rows k row h in
    let more : take (k + 1) rows ≡ take k rows ++ row ∷ [] = ap (λ n. take n rows) (add-one k) ∙ take-suc rows k [] l ∙ ap (λ r. take k rows ++ r ∷ []) (get_or_from_slice_get rows k row [] h) in
    ap newest_first more ∙ ap reverse (map-append (map Some) (take k rows) (row ∷ [])) ∙ reverse-append (map (map Some) (take k rows)) (map Some row ∷ [])

pub filled_is : (rows : List (List Value)) (k : ℕ) (row : List Value) (cells : List (Option Value)) (width : ℕ) → slice_get rows k ≡ Some row → length row ≡ width → ((x : ℕ) → x < width → slice_get cells x ≡ Some (entry_at rows k x)) → take width cells ≡ map Some row
filled_is rows k row cells width h n filled =
    ap (λ m. take m cells) (sym n)
    ∙ row_filled cells row (λ x l. filled x (omega (arith, l, n)) ∙ ap Some (ap (option_and_then (λ (r : List Value). slice_get r x)) h))

-- ---- the table

pub solves_of : (plans : List Plan) (k : Planned plans) (n : ℕ) (s : State) (g : ℕ) (rows : List Row) (es : List Environment) (f : Function) → StateStands plans k n s g rows es → function_of k.program.funcs g ≡ Some f → Solves (calls_of k.program.funcs) f es rows
solves_of plans k zero s g rows es f st is = elim st [ ]
solves_of plans k (suc n) s g rows es f st is = let same : st.function ≡ f = cc (is, st.is) in subst (λ (f : Function). Solves (calls_of k.program.funcs) f es rows) same st.solves

pub room_of : (plans : List Plan) (k : Planned plans) (n : ℕ) (s : State) (g : ℕ) (rows : List Row) (es : List Environment) (f : Function) → StateStands plans k n s g rows es → function_of k.program.funcs g ≡ Some f → (f.n_in ≤ length (cells_of s)) × (inputs_at plans g ≡ f.n_in)
room_of plans k zero s g rows es f st is = elim st [ ]
room_of plans k (suc n) s g rows es f st is =
    let same : st.function ≡ f = cc (is, st.is) in
    let pa = k.plan g st.function st.is in
    let good = (good_function k.program k.good k.checked g st.function st.is).inputs in
    let low = pa.plan_of.variables in
    let size = st.cells in
    let inputs = ap (λ (f : Function). f.n_in) same in
    (omega (arith, good, low, size, inputs), ap plan_inputs pa.is ∙ pa.plan_of.inputs ∙ inputs)

-- what the columns hold after these instants
abbrev pub shown_by : Function → ℕ → List Environment → List Cell
shown_by f x es = reverse (map (λ env. cell env (clock_of f.decls x) x) es)

pub shown_more : (f : Function) (x : ℕ) (env : Environment) (es : List Environment) → shown_by f x (env ∷ es) ≡ shown_by f x es ++ cell env (clock_of f.decls x) x ∷ []
shown_more f x env es =
    let s : Environment → Cell = λ e. cell e (clock_of f.decls x) x in
    reverse-append (s env ∷ []) (map s es)

-- how far the columns of these variables have come
pub record Shown (p : WholeProgram) (plans : List Plan) (a : ArePlans p plans) (rows : List (List Value)) (k : ℕ) (state : State) (columns : List (List Cell)) (xs : List ℕ) (f : Function) (es : List Environment) : Type 0 where
  pub stands : StateStands plans a.planned (length plans) state p.main (newest_first (take k rows)) es
  pub number : length columns ≡ length xs
  pub columns_are : (i : ℕ) → i < length xs → get_or columns i [] ≡ shown_by f (get_or xs i 0) es

pub has_streams_of : (p : WholeProgram) (plans : List Plan) (a : ArePlans p plans) (rows : List (List Value)) (k : ℕ) (state : State) (columns : List (List Cell)) (xs : List ℕ) (f : Function) (es : List Environment) → main_of p ≡ Some f → length rows ≤ k
    → All (λ x. x < length f.decls) xs → Shown p plans a rows k state columns xs f es → HasStreamsOf p rows xs columns
has_streams_of p plans a rows k state columns xs f es is all below s =
    let program = a.planned.program in
    let there : function_of program.funcs p.main ≡ Some f = ap (λ (q : WholeProgram). function_of q.funcs p.main) a.is ∙ is in
    let causal = causal_function program a.planned.good a.planned.checked p.main f there in
    let clocked = clocked_function program a.planned.good a.planned.checked p.main f there in
    let whole : newest_first (take k rows) ≡ newest_first rows = ap newest_first (take_all k rows all) in
    let solves = subst (λ r. Solves (calls_of program.funcs) f es r) whole (solves_of plans a.planned (length plans) state p.main (newest_first (take k rows)) es f s.stands there) in
    let each : (i : ℕ) → i < length xs → get_or columns i [] ≡ stream_of program.funcs f rows (get_or xs i 0) =
    λ i l. s.columns_are i l ∙ stream_is program.funcs f causal clocked rows es solves (get_or xs i 0) (All-get_or (λ x. x < length f.decls) xs i 0 l below) in
    let streams : columns ≡ streams_at program.funcs f rows xs = columns_by_place (stream_of program.funcs f rows) xs columns s.number each in
    subst (λ o. MatchOption o ⊥ (λ f. columns ≡ streams_at p.funcs f rows xs)) (sym is) (subst (λ (q : WholeProgram). columns ≡ streams_at q.funcs f rows xs) a.is streams)

pub of_main : (p : WholeProgram) (xs : List ℕ) (f : Function) → main_of p ≡ Some f → All (λ x. x < length f.decls) xs → AreOfMain p xs
of_main p xs f is below = subst (λ o. MatchOption o ⊥ (λ f. All (λ x. x < length f.decls) xs)) (sym is) below

pub below_main : (p : WholeProgram) (xs : List ℕ) (f : Function) → main_of p ≡ Some f → AreOfMain p xs → All (λ x. x < length f.decls) xs
below_main p xs f is all = subst (λ o. MatchOption o ⊥ (λ f. All (λ x. x < length f.decls) xs)) is all

streams_are : (p : WholeProgram) (rows : List (List Value)) (xs : List ℕ) (streams : List (List Cell)) (f : Function) → main_of p ≡ Some f → HasStreamsOf p rows xs streams → streams ≡ streams_at p.funcs f rows xs
streams_are p rows xs streams f is has = subst (λ o. MatchOption o ⊥ (λ f. streams ≡ streams_at p.funcs f rows xs)) is has

-- of the outputs
pub output_streams_of : (p : WholeProgram) (rows : List (List Value)) (xs : List ℕ) (streams : List (List Cell)) (f : Function) → main_of p ≡ Some f → xs ≡ f.outs → HasStreamsOf p rows xs streams → HasOutputStreams p rows streams
output_streams_of p rows xs streams f is outs has =
    subst (λ o. MatchOption o ⊥ (λ f. streams ≡ streams_at p.funcs f rows f.outs)) (sym is) (streams_are p rows xs streams f is has ∙ ap (streams_at p.funcs f rows) outs)

-- of all variables
pub main_streams_of : (p : WholeProgram) (rows : List (List Value)) (xs : List ℕ) (table : List (List Cell)) (f : Function) → main_of p ≡ Some f → length xs ≡ length f.decls → ((x : ℕ) → x < length f.decls → get_or xs x 0 ≡ x)
    → HasStreamsOf p rows xs table → HasMainStreams p rows table
main_streams_of p rows xs table f is number each has =
    let same = streams_are p rows xs table f is has in
    let streams : HasStreams p.funcs f rows table = record {
      width = ap length same ∙ length-map xs (stream_of p.funcs f rows) ∙ number;
      streams = λ x l. ap (λ t. get_or t x []) same ∙ get_or-map (stream_of p.funcs f rows) xs x 0 [] (omega (arith, l, number)) ∙ ap (stream_of p.funcs f rows) (each x l);
    } in
    subst (λ o. MatchOption o ⊥ (λ f. HasStreams p.funcs f rows table)) (sym is) streams

pub fit_of : (p : WholeProgram) (inputs : InputTable) (f : Function) → function_of p.funcs p.main ≡ Some f → InputsFitMain p inputs → InputsFit f inputs
fit_of p inputs f is fit = subst (λ o. MatchOption o ⊥ (λ f. InputsFit f inputs)) is fit

-- the cells have their variables' types
pub main_types : (p : WholeProgram) (inputs : InputTable) (table : List (List Cell)) → GoodProgram p → CheckedProgram p → InputsFitMain p inputs → HasMainStreams p inputs.rows table → HasMainTypes p table
main_types p inputs table good checked fit streams =
    let f = function_there p.funcs p.main good.main in
    let has = subst (λ o. MatchOption o ⊥ (λ f. HasStreams p.funcs f inputs.rows table)) f.1 streams in
    let behaviour = one_behaviour p good checked p.main f.0 f.1 inputs.rows (fit_of p inputs f.0 f.1 fit).rows in
    let types : HasTypes f.0 table = λ x t e. subst (All (CellFits (clock_of f.0.decls x) t)) (sym (has.streams x (typed_below f.0.decls x t e))) (behaviour.fits x t e) in
    subst (λ o. MatchOption o ⊥ (λ f. HasTypes f table)) (sym f.1) types
  where
    typed_below : (ds : List Decl) (x : ℕ) (t : Ty) → ty_at ds x ≡ Some t → x < length ds
    typed_below [] x t h = absurd (cc)
    typed_below (d ∷ ds) zero t h = omega arith
    typed_below (d ∷ ds) (suc x) t h = let l = typed_below ds x t h in omega (arith, l)
