-- A checked program has exactly one behaviour.
use Rattle.std.proofs.Common.{◌≡◌, ℕ, zero, suc, ◌<◌, Bool, true, false, List, [], ◌∷◌, length, map, reverse, Option, Some, None, All, refl, sym, subst, arith}
use Rattle.std.specs.Prelude.{if◌then◌else◌}
use Rattle.std.proofs.lemmas.List.{reverse-append}
use Rattle.std.proofs.lemmas.List.Elements.{All-nil, All-cons, All-append}
use Rattle.lt_base.specs.declared.value.Ty.{Ty}
use Rattle.lt_base.specs.declared.value.Value.{Value}
use Rattle.lt_base.specs.declared.value.Cell.{Cell}
use Rattle.lt_base.specs.declared.value.Cell.TheVariants.{Absent}
use Rattle.lt_base.specs.declared.function.Decl.{Decl}
use Rattle.lt_base.specs.Meaning.{ClockPairs, Environment, clock_of, present, environments, here, cell}
use Rattle.lt_base.specs.Typing.{ty_at, input_types, HasType}
use Rattle.lt_base.specs.Defined.{DefinedAt, AllDefined}
use Rattle.lt_base.specs.Behaviour.{newest_first, calls_of, CellFits, ChecksGiveOneBehaviour, CallsHaveOneAnswer, StreamsGrowOnly, CausalByRanks, SizesAddUp}
use Rattle.lt_base.proofs.Solution.{environments_solve, means}
use Rattle.lt_base.proofs.Streams.{stream_length, stream_front}
use Rattle.lt_base.proofs.Order.{place_of, ordered, causal_from_ranks}
use Rattle.lt_base.proofs.Heights.{height_low, closed, closed_same}
use Rattle.lt_base.proofs.Lookups.{function_below}
use Rattle.lt_base.proofs.Weighing.{weights_add_up, parts_add_up}
use Rattle.lt_base.proofs.Defined.{fit_reverse, clocked_function, causal_function, defined}

module _ (ds : List Decl) (x : ℕ) (t : Ty) (declared : x < length ds) (type : ty_at ds x ≡ Some t) where
  here_fits : (ck : ClockPairs) (v : Option Value) → HasType v t → CellFits ck t (here v)
  here_fits ck None h = elim h [ ]
  here_fits ck (Some v) h = h

  absent_fits : (ck : ClockPairs) (env : Environment) → present env ck ≡ false → CellFits ck t Absent
  absent_fits [] env h = absurd (cc)
  absent_fits (q ∷ ck) env h = tt

  cell_fits : (env : Environment) → DefinedAt ds env x → (b : Bool) → present env (clock_of ds x) ≡ b → CellFits (clock_of ds x) t (if b then here (env x) else Absent)
  cell_fits env d true p = here_fits (clock_of ds x) (env x) (d t declared type p)
  cell_fits env d false p = absent_fits (clock_of ds x) env p

  abbrev shown_of : Environment → Cell
  shown_of env = cell env (clock_of ds x) x

  cells_fit : (es : List Environment) → AllDefined ds es → All (CellFits (clock_of ds x) t) (reverse (map shown_of es))
  cells_fit [] d = All-nil (CellFits (clock_of ds x) t)
  cells_fit (env ∷ es) d =
      subst
      (All (CellFits (clock_of ds x) t))
      (sym (reverse-append (shown_of env ∷ []) (map shown_of es)))
      (All-append (CellFits (clock_of ds x) t) (reverse (map shown_of es)) (shown_of env ∷ []) (cells_fit es d.1) (All-cons (CellFits (clock_of ds x) t) (shown_of env) [] (cell_fits env (d.0 x) (present env (clock_of ds x)) refl) (All-nil (CellFits (clock_of ds x) t))))

typed_below : (ds : List Decl) (x : ℕ) (t : Ty) → ty_at ds x ≡ Some t → x < length ds
typed_below [] x t h = absurd (cc)
typed_below (d ∷ ds) zero t h = omega arith
typed_below (d ∷ ds) (suc x) t h = let l = typed_below ds x t h in omega (arith, l)

pub one_behaviour : ChecksGiveOneBehaviour
one_behaviour p good checked g f e rows fits =
    let fs = p.funcs in
    let C = calls_of fs in
    let rs = newest_first rows in
    let causal = causal_function p good checked g f e in
    let all = defined p good checked g f e rs (fit_reverse (input_types f) (map (map Some) rows) fits) in
    record {
      behaviour = environments C f rs;
      meant = refl;
      holds = environments_solve C f causal rs;
      defined = all;
      only = means C fs f causal (clocked_function p good checked g f e) rs;
      shown = λ x d. refl;
      fits = λ x t h. cells_fit f.decls x t (typed_below f.decls x t h) h (environments C f rs) all;
    }

pub one_answer : CallsHaveOneAnswer
one_answer p good n =
    let fs = p.funcs in
    let means_it = closed fs n good.calls in
    record {
      answers = means_it;
      only = λ callee c g f e rows. closed_same fs n good.calls callee (calls_of fs) c means_it (length fs) g f e (height_low fs n g (function_below fs g f e)) rows;
    }

pub streams_grow : StreamsGrowOnly
streams_grow fs f x = record { cells = stream_length fs f x; front = stream_front fs f x }

pub causal_by_ranks : CausalByRanks
causal_by_ranks f = (λ causal. (place_of f causal, (ordered f causal).ranked), causal_from_ranks f)

pub sizes_add_up : SizesAddUp
sizes_add_up fs n = (weights_add_up fs n, parts_add_up fs n)
