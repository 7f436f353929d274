-- One step after another.
use Rattle.std.proofs.Common.{◌≡◌, ◌<◌, ℕ, List, [], ◌++◌, Option, Result, Ok, Err, MatchResult, IfOk, sym, ap, ◌∙◌, subst, inl, inr}
use Rattle.std.specs.Prelude.{◌-◌, ◌^◌, IsErrAnd}
use Rattle.lt_base.specs.Or.{MapsFault}
use Rattle.lt_base.specs.declared.memory.Or.{Or}
use Rattle.lt_base.specs.declared.memory.Or.TheVariants.{Fault, Memory}
use Rattle.lt_io.specs.Visits.{Errand}
use Rattle.lt_io.specs.FilesState.{FilesState}
use Rattle.lt_answer.specs.World.{World, Blame, Content, Blames, alone}
use Rattle.lt_answer.specs.Answered.{Answered, Verdict, AndThen, Refuses, Settles}
use Rattle.lt_answer.proofs.Stages.{settles, refuses, runs_short, calm_itself, goes_on, stops, renamed, errands_all}
use Rattle.lt_answer.specs.Rules.{Raised}

-- a count that stayed
pub counts_on : (a b : ℕ) → b ≡ a → a < 2 ^ 64 - 1 → b < 2 ^ 64 - 1
counts_on a b same low = subst (λ (n : ℕ). n < 2 ^ 64 - 1) (sym same) low

-- faults of what was read alone
abbrev pub IsContent : {T E : Type 0} → (E → Blame) → Verdict T E → Type 0
IsContent {E} blame V = (e : E) → V (Err e) → blame e ≡ Content

pub content_then : {T U E : Type 0} (blame : E → Blame) (V : Verdict T E) (next : T → Verdict U E) → IsContent blame V → ((x : T) → IsContent blame (next x)) → IsContent blame (AndThen V next)
content_then blame V next first second e (inl p) = first e p
content_then blame V next first second e (inr p) = second p.0 e p.2

pub content_raised : {T E G : Type 0} (blame : G → Blame) (raise : E → G) (V : Verdict T E) → ((e : E) → blame (raise e) ≡ Content) → IsContent blame (Raised raise V)
content_raised blame raise V all g raised = ap blame raised.2 ∙ all raised.0

-- a step that touches nothing, by its verdict
pub untouched : {T E : Type 0} (blame : E → Blame) (V : Verdict T E) (w : World) (r : Result T (Or E)) → IsContent blame V → Settles V r → Answered blame [] V w w r
untouched blame V w (Ok x) content right = settles w x right
untouched blame V w (Err (Fault e)) content right = refuses w e (subst (Blames w w) (sym (content e right)) (calm_itself w)) right
untouched blame V w (Err Memory) content right = runs_short w

-- its fault as that of the step around it
pub raised_refusal : {T E G : Type 0} (raise : E → G) (V : Verdict T E) (e : Or E) (g : Or G) → MapsFault e g (λ f h. h ≡ raise f) → Refuses V e → Settles (Raised raise V) (Err g)
raised_refusal raise V (Fault f) (Fault h) is refused = (f, refused, is)
raised_refusal raise V (Fault f) Memory is refused = absurd is
raised_refusal raise V Memory (Fault h) is refused = absurd is
raised_refusal raise V Memory Memory is refused = tt

-- its answer as that of the step around it
pub raised_answer : {T E G : Type 0} (raise : E → G) (V : Verdict T E) (r : Result T (Or E)) (q : Result T (Or G)) → Settles V r
    → MatchResult r (λ x. q ≡ Ok x) (λ e. IsErrAnd q (λ g. MapsFault e g (λ f h. h ≡ raise f))) → Settles (Raised raise V) q
raised_answer raise V (Ok x) q right is = subst (Settles (Raised raise V)) (sym is) right
raised_answer raise V (Err e) (Ok y) right is = absurd is
raised_answer raise V (Err e) (Err g) right is = raised_refusal raise V e g is right

-- and what is so of its value
pub raised_value : {T E G : Type 0} (P : T → Type 0) (R : E → G → Type 0) (r : Result T E) (q : Result T G) → IfOk r P → MatchResult r (λ x. q ≡ Ok x) (λ e. IsErrAnd q (R e)) → IfOk q P
raised_value P R (Ok x) q of is = subst (λ z. IfOk z P) (sym is) of
raised_value P R (Err e) (Ok y) of is = absurd is
raised_value P R (Err e) (Err g) of is = tt

-- a step on files, and then another on what is left of them

abbrev pub Names : Type 0
Names = List ℕ → Option (List ℕ)

module _ {T U E : Type 0} (blame : E → Blame) (V : Verdict T E) (next : Names → T → Verdict U E) (a b : FilesState) where
  -- the first is refused
  pub refused_step : {es : List Errand} (fs : List Errand) (e : Or E) (r : Result U (Or E)) → IsErrAnd r (λ f. f ≡ e) → Answered blame es V (alone a) (alone b) (Err e) → Answered blame (es ++ fs) (AndThen V (next a.named)) (alone a) (alone b) r
  refused_step fs e (Ok x) is first = absurd is
  refused_step {es} fs e (Err f) is first = subst (λ (g : Or E). Answered blame (es ++ fs) (AndThen V (next a.named)) (alone a) (alone b) (Err g)) (sym is) (stops fs (alone a) (alone b) e first)

  module _ {es : List Errand} (x : T) (r : Result U (Or E)) (first : Answered blame es V (alone a) (alone b) (Ok x)) where
    pub next_step : {fs : List Errand} (c : FilesState) → Answered blame fs (next b.named x) (alone b) (alone c) r → Answered blame (es ++ fs) (AndThen V (next a.named)) (alone a) (alone c) r
    next_step c second = goes_on (alone a) (alone b) (alone c) x r first (renamed (λ names. next names x) b.named a.named (alone b) (alone c) r first.keeps.files.named second)

    -- the second needs no files
    pub last_step : IsContent blame (next b.named x) → Settles (next b.named x) r → Answered blame es (AndThen V (next a.named)) (alone a) (alone b) r
    last_step content second = errands_all (alone a) (alone b) r (next_step b (untouched blame (next b.named x) (alone b) r content second))
