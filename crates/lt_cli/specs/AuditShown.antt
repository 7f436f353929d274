-- What a reader has of an audit that ended well.
use Rattle.std.specs.Prelude.{◌≡◌, ℕ, List, length, Option, None, Some, Ok}
use Rattle.lt_arch.specs.declared.event.Event.{Event}
use Rattle.lt_schedule.specs.Verdict.{verdict}
use Rattle.lt_timing.specs.Accepts.{Accepts}
use Rattle.lt_load.specs.Plan.{Plan}
use Rattle.lt_inspect.specs.declared.scene.Scene.{Scene}
use Rattle.lt_inspect.specs.declared.audited.Audited.{Audited}
use Rattle.lt_inspect.specs.Scenes.{IsSceneOf, scene_verdict}
use Rattle.lt_inspect.specs.Inspected.{IsAudited}
use Rattle.lt_cli.specs.Objects.{Objects}
use Rattle.lt_cli.specs.Taken.{TookText}
use Rattle.lt_text_answers.specs.Texts.{audit_text, audited_text}

-- these files hold a program, inputs and a setup that are not refused, and a schedule that reads as an admissible list of events over
-- the nodes and channels of its scene
pub record HoldSchedule (named : List ℕ → Option (List ℕ)) (program inputs schedule config : List ℕ) (plan : Plan) (scene : Scene) (events : List Event) : Type 0 where
  -- the program, the setup and the rows of inputs
  pub loaded : scene_verdict named program inputs config None (Ok plan)
  -- the nodes and the channels between them, with the setup's bounds of time
  pub scene_is : IsSceneOf plan None scene
  -- the schedule's file reads as these events, none of which is refused
  pub bytes : List ℕ
  pub file : named schedule ≡ Some bytes
  pub reads : verdict scene.shape scene.timing scene.rows bytes ≡ Ok events

-- `out` took the text that there is no message too few or too many among these events, and `err` nothing
abbrev pub TookClean : Scene → List Event → (old new : Objects) → Type 0
TookClean scene events old new = TookText (audit_text scene.shape (length events) None) old new

-- an audit of these files ended well
pub record IsAuditShown (named : List ℕ → Option (List ℕ)) (program inputs schedule config : List ℕ) (old new : Objects) : Type 0 where
  pub plan : Plan
  pub scene : Scene
  pub events : List Event
  pub held : HoldSchedule named program inputs schedule config plan scene events
  -- `out` took the text of the first message too few or too many, or that there is none, and `err` nothing
  pub audited : Audited
  pub text : TookText (audited_text audited) old new
  pub audits : IsAudited scene events audited
  -- where the timing is accepted there is none
  pub clean : Accepts plan.setup.timing → TookClean scene events old new
