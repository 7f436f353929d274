-- Steps one after another.
use Rattle.std.proofs.Common.{◌≡◌, ℕ, List, [], ◌++◌, Option, ◌<◌, Result, Ok, Err, MatchResult, IsTrue, is_ok, refl, sym, ◌∙◌, subst, append-nil, arith, inl, inr}
use Rattle.std.specs.Prelude.{IsErrAnd}
use Rattle.lt_base.specs.declared.memory.Or.{Or}
use Rattle.lt_base.specs.declared.memory.Or.TheVariants.{Fault, Memory}
use Rattle.lt_io.specs.FilesState.{FilesState}
use Rattle.lt_io.specs.Visits.{Errand, Visited}
use Rattle.lt_io.proofs.Visiting.{visited_none, unvisited, visited_then, visited_stop}
use Rattle.lt_io.specs.FabricState.{FabricState, OpensAtMostOnce, OpensOnce}
use Rattle.lt_answer.specs.World.{World, KeepsWorld, IsCalm, Blame, Content, Reading, Linking, Blames, alone}
use Rattle.lt_answer.specs.Answered.{Answered, Verdict, Settles, OrBlames, AndThen}

pub keeps_itself : (w : World) → KeepsWorld w w
keeps_itself w = record {
  files = record { sound = refl; told = refl; named = refl };
  fabric = record { faithful = refl; sound = refl; told = refl; prompt = λ h. h };
  steady = λ sound. refl;
}

keeps_on : (a b c : World) → KeepsWorld a b → KeepsWorld b c → KeepsWorld a c
keeps_on a b c first second = record {
  files = record {
    sound = second.files.sound ∙ first.files.sound;
    told = second.files.told ∙ first.files.told;
    named = second.files.named ∙ first.files.named;
  };
  fabric = record {
    faithful = second.fabric.faithful ∙ first.fabric.faithful;
    sound = second.fabric.sound ∙ first.fabric.sound;
    told = second.fabric.told ∙ first.fabric.told;
    prompt = λ h. second.fabric.prompt (first.fabric.prompt h);
  };
  steady = λ sound. second.steady (subst IsTrue (sym first.fabric.sound) sound) ∙ first.steady sound;
}

pub calm_itself : (w : World) → IsCalm w w
calm_itself w = record { files = refl; fabric = refl }

-- a step that touches nothing gives its value
pub settles : {T E : Type 0} {blame : E → Blame} {V : Verdict T E} (w : World) (x : T) → V (Ok x) → Answered blame [] V w w (Ok x)
settles w x right = record { keeps = keeps_itself w; visits = visited_none w.files.visits _; cause = calm_itself w; exact = λ _ _. right; sound = λ _ _ rose. absurd (omega (arith, rose)) }

-- it refuses
pub refuses : {T E : Type 0} {blame : E → Blame} {es : List Errand} {V : Verdict T E} (w : World) (e : E) → Blames w w (blame e) → V (Err e) → Answered blame es V w w (Err (Fault e))
refuses {es} w e blamed right = record { keeps = keeps_itself w; visits = unvisited es w.files.visits; cause = blamed; exact = λ _ _. right; sound = λ _ _ rose. absurd (omega (arith, rose)) }

-- it finds no memory
pub runs_short : {T E : Type 0} {blame : E → Blame} {es : List Errand} {V : Verdict T E} (w : World) → Answered blame es V w w (Err Memory)
runs_short {es} w = record { keeps = keeps_itself w; visits = unvisited es w.files.visits; cause = calm_itself w; exact = λ _ _. tt; sound = λ _ _ rose. absurd (omega (arith, rose)) }

-- the same, by the error that is handed on
pub runs_short_by : {T E : Type 0} {blame : E → Blame} {es : List Errand} {V : Verdict T E} (w : World) (r : Result T (Or E)) → IsErrAnd r (λ f. f ≡ Memory) → Answered blame es V w w r
runs_short_by w (Ok x) is = absurd is
runs_short_by {T} {E} {blame} {es} {V} w (Err e) is = subst (λ (f : Or E). Answered {T = T} blame es V w w (Err f)) (sym is) (runs_short w)

-- where nothing is touched, no fabric is opened
pub opens_none : (s : FabricState) → OpensAtMostOnce s s
opens_none s = record { least = omega arith; most = omega arith }

-- a refusal says no more of the calls than that
pub opens_refused : {T E : Type 0} (P : E → Type 0) (a b : FabricState) (r : Result T E) → IsErrAnd r P → OpensAtMostOnce a b → OpensOnce a b r
opens_refused P a b (Ok x) is calls = absurd is
opens_refused P a b (Err e) is calls = record { calls = calls; done = tt }

calm_on : (a b c : World) → IsCalm a b → IsCalm b c → IsCalm a c
calm_on a b c first second = record { files = second.files ∙ first.files; fabric = second.fabric ∙ first.fabric }

blames_on : (a b c : World) (whose : Blame) → IsCalm a b → Blames b c whose → Blames a c whose
blames_on a b c Content calm blamed = calm_on a b c calm blamed
blames_on a b c Reading calm blamed = (subst (λ n. n < c.files.faults) calm.files blamed.0, blamed.1 ∙ calm.fabric)
blames_on a b c Linking calm blamed = (blamed.0 ∙ calm.files, subst (λ n. n < c.fabric.faults) calm.fabric blamed.1)

cause_on : {T E : Type 0} (blame : E → Blame) (a b c : World) → IsCalm a b → (r : Result T (Or E)) → MatchResult r (λ _. IsCalm b c) (OrBlames blame b c) → MatchResult r (λ _. IsCalm a c) (OrBlames blame a c)
cause_on blame a b c calm (Ok x) cause = calm_on a b c calm cause
cause_on blame a b c calm (Err (Fault e)) cause = blames_on a b c (blame e) calm cause
cause_on blame a b c calm (Err Memory) cause = calm_on a b c calm cause

-- an answer that is right of one verdict is right of a wider one
pub settles_too : {T E : Type 0} (V W : Verdict T E) → ((o : Result T E) → V o → W o) → (r : Result T (Or E)) → Settles V r → Settles W r
settles_too V W wider (Ok x) right = wider (Ok x) right
settles_too V W wider (Err (Fault e)) right = wider (Err e) right
settles_too V W wider (Err Memory) right = tt

-- a step that gave a value, and then another
pub goes_on : {T U E : Type 0} {blame : E → Blame} {es fs : List Errand} {V : Verdict T E} {next : T → Verdict U E} (a b c : World) (x : T) (r : Result U (Or E))
    → Answered blame es V a b (Ok x) → Answered blame fs (next x) b c r → Answered blame (es ++ fs) (AndThen V next) a c r
goes_on {blame} {es} {fs} {V} {next} a b c x r first second =
    let calm : IsCalm a b = first.cause in
    let told : IsTrue a.files.told → IsTrue b.files.told = λ t. first.keeps.files.told ∙ t in
    let right : IsTrue a.files.told → V (Ok x) = λ t. first.exact t calm in
    let wider : IsTrue a.files.told → (o : Result _ _) → next x o → AndThen V next o = λ t o h. inr (x, right t, h) in
    record {
      keeps = keeps_on a b c first.keeps second.keeps;
      visits = visited_then es fs a.files.visits b.files.visits c.files.visits (is_ok r) first.visits second.visits;
      cause = cause_on blame a b c calm r second.cause;
      exact = λ t whole. settles_too (next x) (AndThen V next) (wider t) r (second.exact (told t) (record { files = whole.files ∙ sym calm.files; fabric = whole.fabric ∙ sym calm.fabric }));
      sound = λ t s rose.
          let reading = second.sound (told t) (first.keeps.files.sound ∙ s) (subst (λ n. n < c.files.faults) (sym calm.files) rose) in
          (reading.0, reading.1, wider t (Err reading.0) reading.2);
    }

-- a step that was refused
pub stops : {T U E : Type 0} {blame : E → Blame} {es : List Errand} {V : Verdict T E} {next : T → Verdict U E} (fs : List Errand) (a b : World) (e : Or E)
    → Answered blame es V a b (Err e) → Answered {T = U} blame (es ++ fs) (AndThen V next) a b (Err e)
stops {blame} {es} {V} {next} fs a b (Fault e) first =
    record {
      keeps = first.keeps;
      visits = visited_stop es fs a.files.visits b.files.visits first.visits;
      cause = first.cause;
      exact = λ t calm. inl (first.exact t calm);
      sound = λ t s rose. let reading = first.sound t s rose in (reading.0, reading.1, inl reading.2);
    }
stops {blame} {es} {V} {next} fs a b Memory first =
    record {
      keeps = first.keeps;
      visits = visited_stop es fs a.files.visits b.files.visits first.visits;
      cause = first.cause;
      exact = λ t calm. tt;
      sound = λ t s rose. let reading = first.sound t s rose in (reading.0, reading.1, inl reading.2);
    }

-- a step that needs no fabric, beside one
pub beside : {T E : Type 0} {blame : E → Blame} {es : List Errand} {V : Verdict T E} (a b : FilesState) (w : FabricState) (r : Result T (Or E))
    → Answered blame es V (alone a) (alone b) r → Answered blame es V (record { files = a; fabric = w }) (record { files = b; fabric = w }) r
beside {blame} {es} {V} a b w r answered =
    record {
      keeps = record { files = answered.keeps.files; fabric = (keeps_itself (record { files = a; fabric = w })).fabric; steady = λ sound. refl };
      visits = answered.visits;
      cause = cause_beside blame a b w r answered.cause;
      exact = λ t calm. answered.exact t (record { files = calm.files; fabric = refl });
      sound = answered.sound;
    }
  where
    blames_beside : (a b : FilesState) (w : FabricState) (whose : Blame) → Blames (alone a) (alone b) whose → Blames (record { files = a; fabric = w }) (record { files = b; fabric = w }) whose
    blames_beside a b w Content blamed = record { files = blamed.files; fabric = refl }
    blames_beside a b w Reading blamed = (blamed.0, refl)
    blames_beside a b w Linking blamed = absurd (omega (arith, blamed.1))

    cause_beside : {T E : Type 0} (blame : E → Blame) (a b : FilesState) (w : FabricState) (r : Result T (Or E))
        → MatchResult r (λ _. IsCalm (alone a) (alone b)) (OrBlames blame (alone a) (alone b))
        → MatchResult r (λ _. IsCalm (record { files = a; fabric = w }) (record { files = b; fabric = w })) (OrBlames blame (record { files = a; fabric = w }) (record { files = b; fabric = w }))
    cause_beside blame a b w (Ok x) cause = record { files = cause.files; fabric = refl }
    cause_beside blame a b w (Err (Fault e)) cause = blames_beside a b w (blame e) cause
    cause_beside blame a b w (Err Memory) cause = record { files = cause.files; fabric = refl }

-- a step on files with the same names
pub renamed : {T E : Type 0} {blame : E → Blame} {es : List Errand} (V : (List ℕ → Option (List ℕ)) → Verdict T E) (n m : List ℕ → Option (List ℕ)) (a b : World) (r : Result T (Or E)) → n ≡ m → Answered blame es (V n) a b r → Answered blame es (V m) a b r
renamed {blame} {es} V n m a b r same answered = subst (λ (names : List ℕ → Option (List ℕ)). Answered blame es (V names) a b r) same answered

-- a step that is right of one verdict is right of a wider one
pub widened : {T E : Type 0} {blame : E → Blame} {es : List Errand} (V W : Verdict T E) (a b : World) (r : Result T (Or E)) → ((o : Result T E) → V o → W o) → Answered blame es V a b r → Answered blame es W a b r
widened {blame} V W a b r wider answered = record {
  keeps = answered.keeps;
  visits = answered.visits;
  cause = answered.cause;
  exact = λ told calm. settles_too V W wider r (answered.exact told calm);
  sound = λ told sound rose. let reading = answered.sound told sound rose in (reading.0, reading.1, wider (Err reading.0) reading.2);
}

-- a step with no errand after these
pub errands_all : {T E : Type 0} {blame : E → Blame} {es : List Errand} {V : Verdict T E} (a b : World) (r : Result T (Or E)) → Answered blame (es ++ []) V a b r → Answered blame es V a b r
errands_all {blame} {es} {V} a b r answered = subst (λ (fs : List Errand). Answered blame fs V a b r) (append-nil es) answered
