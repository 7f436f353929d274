-- How an answer ends a call of the whole.
use Rattle.std.proofs.Common.{ℕ, List, [], ◌∷◌, ◌++◌, Ok, Err, refl, sym, append-nil}
use Rattle.lt_base.specs.declared.memory.Or.TheVariants.{Fault, Memory}
use Rattle.lt_io.specs.Visits.{Errand}
use Rattle.lt_io.specs.SinkState.{SinkState}
use Rattle.lt_answer.specs.World.{World}
use Rattle.lt_answer.specs.Answered.{Verdict}
use Rattle.lt_answer.specs.Answered.{Answered}
use Rattle.lt_text_answers.specs.declared.refusal.Refusal.{Refusal}
use Rattle.lt_text_answers.specs.declared.status.Status.{Status}
use Rattle.lt_text_answers.specs.declared.status.Status.TheVariants as status
use Rattle.lt_text_answers.specs.Blamed.{blame_of}
use Rattle.lt_text_answers.specs.Texts.{refusal_status, refusal_line}
use Rattle.lt_cli.specs.Objects.{KeepsSteady}
use Rattle.lt_cli.specs.Ran.{Ran, Reported, Took, TookFront}
use Rattle.lt_cli.specs.Ran.{printed, unprinted, both_whole, out_broke, err_broke, both_short}
use Rattle.lt_cli.specs.Written.{Written, WriteReaches, whole, broke, short}

pub took_nothing : (s : SinkState) → Took [] s s
took_nothing s = record { counted = refl; taken = λ _. sym (append-nil _) }

pub front_of_none : (text : List ℕ) (s : SinkState) → TookFront text s s
front_of_none text s = record { counted = refl; taken = λ _. (0, sym (append-nil _)) }

pub keeps_sink : (s : SinkState) → KeepsSteady s s
keeps_sink s = record { sound = refl; told = refl; steady = λ sound. refl }

-- a text, which only `out` takes
text_reported : (a b : World) (text : List ℕ) (o0 o1 e : SinkState) (ends : Status) → WriteReaches status.Ok text o0 o1 ends
    → Reported (Ok text) (record { files = a.files; fabric = a.fabric; out = o0; err = e }) (record { files = b.files; fabric = b.fabric; out = o1; err = e }) ends
text_reported a b text o0 o1 e ends (whole is took) = both_whole is took (took_nothing e)
text_reported a b text o0 o1 e ends (broke is broken) = out_broke is broken (took_nothing e)
text_reported a b text o0 o1 e ends (short is front) = both_short is front (front_of_none [] e)

-- a refusal's line, which only `err` takes
pub line_reported : (a b : World) (refusal : Refusal) (o e0 e1 : SinkState) (ends : Status) → WriteReaches (refusal_status refusal) (refusal_line refusal ++ 10 ∷ []) e0 e1 ends
    → Reported (Err refusal) (record { files = a.files; fabric = a.fabric; out = o; err = e0 }) (record { files = b.files; fabric = b.fabric; out = o; err = e1 }) ends
line_reported a b refusal o e0 e1 ends (whole is took) = both_whole is (took_nothing o) took
line_reported a b refusal o e0 e1 ends (broke is broken) = err_broke is (took_nothing o) broken
line_reported a b refusal o e0 e1 ends (short is front) = both_short is (front_of_none [] o) front

-- the command's text
pub ran_whole : {es : List Errand} (V : Verdict (List ℕ) Refusal) (a b : World) (o0 o1 e : SinkState) (text : List ℕ) (ends : Status)
    → Answered blame_of es V a b (Ok text) → Written status.Ok text o0 o1 ends
    → Ran V (record { files = a.files; fabric = a.fabric; out = o0; err = e }) (record { files = b.files; fabric = b.fabric; out = o1; err = e }) ends
ran_whole V a b o0 o1 e text ends answered written =
    record {
      keeps = record { world = answered.keeps; out = written.keeps; err = keeps_sink e };
      outcome = printed (record { outcome = Ok text; cause = answered.cause; right = λ told calm. answered.exact told calm; reported = text_reported a b text o0 o1 e ends written.reaches });
      sound = answered.sound;
    }

-- a refusal's line
pub ran_refused : {es : List Errand} (V : Verdict (List ℕ) Refusal) (a b : World) (o e0 e1 : SinkState) (refusal : Refusal) (ends : Status)
    → Answered blame_of es V a b (Err (Fault refusal)) → Written (refusal_status refusal) (refusal_line refusal ++ 10 ∷ []) e0 e1 ends
    → Ran V (record { files = a.files; fabric = a.fabric; out = o; err = e0 }) (record { files = b.files; fabric = b.fabric; out = o; err = e1 }) ends
ran_refused V a b o e0 e1 refusal ends answered written =
    record {
      keeps = record { world = answered.keeps; out = keeps_sink o; err = written.keeps };
      outcome = printed (record { outcome = Err refusal; cause = answered.cause; right = λ told calm. answered.exact told calm; reported = line_reported a b refusal o e0 e1 ends written.reaches });
      sound = answered.sound;
    }

-- no memory was found for the answer
pub ran_short : {es : List Errand} (V : Verdict (List ℕ) Refusal) (a b : World) (o e : SinkState)
    → Answered blame_of es V a b (Err Memory)
    → Ran V (record { files = a.files; fabric = a.fabric; out = o; err = e }) (record { files = b.files; fabric = b.fabric; out = o; err = e }) status.Memory
ran_short V a b o e answered =
    record {
      keeps = record { world = answered.keeps; out = keeps_sink o; err = keeps_sink e };
      outcome = unprinted (record { no_memory = refl; calm = answered.cause; out = took_nothing o; err = took_nothing e });
      sound = answered.sound;
    }
