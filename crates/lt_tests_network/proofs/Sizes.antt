-- What a program that passed all checks keeps: the numbers of its variables, equations and slots, and the origins in its flat form.
use Rattle.std.proofs.Common.{◌≡◌, ◌∙◌, ◌<◌, ◌+◌, List, [], ◌∷◌, length, ap, sym, subst, arith}
use Rattle.std.specs.Prelude.{◌^◌, ◌*◌, slice_index}
use Rattle.std.specs.List.{All}
use Rattle.std.proofs.lemmas.List.{length-append}
use Rattle.std.proofs.lemmas.List.Elements.{All-nil, All-cons, All-head, All-tail, All-get_or}
use Rattle.lt_base.specs.Program.{Function, WholeProgram}
use Rattle.lt_norm.specs.Flat.{Originated}
use Rattle.lt_step.specs.Size.{extent}
use Rattle.lt_resolve.specs.Resolves.{IsSmallFunction}
use Rattle.lt_front.specs.Checked.{CheckedText, IsChecked}
use Rattle.lt_front.specs.Examined.{ExaminedText, IsExamined}
use Rattle.lt_front.specs.Flattened.{KeepsMain, main_function}
use Rattle.lt_front.proofs.Rooms.{equations_fit}
use Rattle.lt_place_reads.specs.Origins.{HasOrigins}
use Rattle.lt_meaning.specs.Streams.{NumbersFit, ProgramNumbersFit}

-- what is kept of the same program
pub kept_at : (k l : CheckedText) → k ≡ l → IsChecked l → IsChecked k
kept_at k l is kept = subst IsChecked (sym is) kept

-- the step code of the flat form has few parts
pub small_step : (p : WholeProgram) (flat : Originated) → KeepsMain p flat → 8 * extent flat.func < 2 ^ 64
small_step p flat keeps = let few = keeps.few in let parts = keeps.parts in let pairs = keeps.pairs in omega (arith, few, parts, pairs)

-- each variable of the flat form has an origin in `main`
pub has_origins : (p : WholeProgram) (flat : Originated) → KeepsMain p flat → HasOrigins flat
has_origins p flat keeps = record {
  each = keeps.each;
  main = λ x low.
      let each = keeps.each in
      let here : slice_index flat.origin x < length (main_function p).decls =
      All-get_or (λ y. y < length (main_function p).decls) flat.origin x 0 (omega (arith, low, each)) keeps.arose in
      let more : length flat.func.decls ≡ length (main_function p).decls + length keeps.more = ap length keeps.declarations ∙ length-append (main_function p).decls keeps.more in
      record { declared = omega (arith, here, more); own = keeps.own (slice_index flat.origin x) here };
}

numbers_fit : (fs : List Function) → All IsSmallFunction fs → All (λ f. length f.eqs < 2 ^ 32) fs → All NumbersFit fs
numbers_fit [] small few = All-nil NumbersFit
numbers_fit (f ∷ fs) small few =
    let v = (All-head IsSmallFunction f fs small).variables in
    All-cons NumbersFit f fs (record { variables = omega (arith, v); equations = All-head (λ g. length g.eqs < 2 ^ 32) f fs few })
    (numbers_fit fs (All-tail IsSmallFunction f fs small) (All-tail (λ g. length g.eqs < 2 ^ 32) f fs few))

-- the variables and equations of all functions are numbered in 32 bits
pub has_room : (c : ExaminedText) → IsExamined c → ProgramNumbersFit c.program
has_room c checked = numbers_fit c.program.funcs checked.resolved.small (equations_fit c.tree c.program checked.room checked.resolved)
