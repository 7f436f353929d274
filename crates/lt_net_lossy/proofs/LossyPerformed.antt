-- What a network along a schedule over links that lose messages answers, from what its play did.
use Rattle.std.proofs.Common.{◌≡◌, ◌∙◌, ℕ, suc, List, [], length, Result, Ok, Err, IsTrue, refl, subst, arith}
use Rattle.std.specs.Prelude.{IsErrAnd}
use Rattle.lt_base.specs.declared.value.Value.{Value}
use Rattle.lt_base.specs.declared.memory.Or.{Or}
use Rattle.lt_base.specs.declared.memory.Or.TheVariants.{Memory}
use Rattle.lt_arch.specs.declared.shape.Shape.{Shape}
use Rattle.lt_arch.specs.declared.timing.Timing.{Timing}
use Rattle.lt_io.specs.declared.fault.LinkErr.{LinkErr}
use Rattle.lt_io.specs.declared.fault.LinkErr.TheVariants as link
use Rattle.lt_io.specs.Counts.{LinkCountedBy}
use Rattle.lt_io.proofs.Visiting.{visited_none, unvisited}
use Rattle.lt_io.specs.FilesState.{FilesState}
use Rattle.lt_io.specs.FabricState.{FabricState, KeepsPromises, OpensAtMostOnce, OpensOnce}
use Rattle.lt_answer.specs.World.{KeepsWorld, world}
use Rattle.lt_answer.specs.Answered.{Answered, Verdict, AndThen}
use Rattle.lt_answer.proofs.Stages.{goes_on, opens_none, runs_short, widened}
use Rattle.lt_schedule.specs.Errand.{schedule_errand}
use Rattle.lt_place.specs.declared.layout.Layout.{Layout}
use Rattle.lt_net_lossy.specs.Net.{LossyBenchState}
use Rattle.lt_net_lossy.specs.Starts.{IsMadeOfLossy}
use Rattle.lt_net.specs.declared.replayed.Replayed.{Replayed}
use Rattle.lt_net_start.proofs.Onward.{at_error, Allowed, after_leave}
use Rattle.lt_schedule.specs.declared.halt.Halt.{Halt}
use Rattle.lt_net_start.specs.Blamed.{play_blame, link_fault}
use Rattle.lt_net_lossy.specs.LossyReplays.{IsLossyReplay, lossy_replay_verdict, HasLossyPlayed, HasLossyReplayed}
use Rattle.lt_machine.specs.declared.machine.Machine.{Ghosts as Machines}
use Rattle.lt_lossy.specs.declared.event.LossyOffence.{LossyOffence}

module _ {M : Type 0} (mch : Machines M) (l : Layout) (s : Shape) (t : Timing) (losses : ℕ) (inputs : List (List Value)) (name : List ℕ) (files : FilesState) (fabric : FabricState) where
  -- there is no memory to begin with
  pub no_memory : (r : Result (Replayed M) (Or (Halt LossyOffence))) → IsErrAnd r (λ f. f ≡ Memory) → HasLossyReplayed mch l s t losses inputs name files files fabric fabric r
  no_memory r is = at_error (λ answer. HasLossyReplayed mch l s t losses inputs name files files fabric fabric answer) r Memory is (record { answered = runs_short (world files fabric); ended = tt; near = λ told. tt; opens = record { calls = opens_none fabric; done = tt }; layout = tt })

  module _ (mid : FabricState) (keeps : KeepsPromises fabric mid) (steady : IsTrue fabric.sound → mid.faults ≡ fabric.faults) (once : OpensAtMostOnce fabric mid) where
    unplayed_keeps : KeepsWorld (world files fabric) (world files mid)
    unplayed_keeps = record { files = record { sound = refl; told = refl; named = refl }; fabric = keeps; steady = steady }

    -- the fabric was not opened
    pub not_opened : (e : LinkErr) → LinkCountedBy fabric.faults mid.faults e → HasLossyReplayed mch l s t losses inputs name files files fabric mid (Err (link_fault e))
    not_opened link.Failed rose = record {
      answered = record {
        keeps = unplayed_keeps;
        visits = unvisited (schedule_errand name) files.visits;
        cause = (refl, rose);
        exact = λ told calm. absurd (let same = calm.fabric in omega (arith, rose, same));
        sound = λ told sound more. absurd (omega (arith, more));
      };
      ended = tt;
      near = λ told. tt;
      opens = record { calls = once; done = tt };
      layout = tt;
    }
    not_opened link.Memory same = record {
      answered = record {
        keeps = unplayed_keeps;
        visits = unvisited (schedule_errand name) files.visits;
        cause = record { files = refl; fabric = same };
        exact = λ told calm. tt;
        sound = λ told sound more. absurd (omega (arith, more));
      };
      ended = tt;
      near = λ told. tt;
      opens = record { calls = once; done = tt };
      layout = tt;
    }

    -- it was opened, and then the schedule was played
    module _ (calm : mid.faults ≡ fabric.faults) (opened : mid.opens ≡ suc fabric.opens) (files' : FilesState) (fabric' : FabricState) where
      abbrev right_of : Verdict (Replayed M) (Halt LossyOffence)
      right_of = lossy_replay_verdict (IsLossyReplay mch l s t losses inputs fabric') s t losses (length inputs) (files.named name)

      leave : Answered play_blame [] (Allowed {E = Halt LossyOffence}) (world files fabric) (world files mid) (Ok tt)
      leave = record {
        keeps = unplayed_keeps;
        visits = visited_none files.visits _;
        cause = record { files = refl; fabric = calm };
        exact = λ told calm. tt;
        sound = λ told sound more. absurd (omega (arith, more));
      }

      opens_by : (r : Result (Replayed M) (Or (Halt LossyOffence))) → fabric'.opens ≡ suc fabric.opens → OpensOnce fabric fabric' r
      opens_by (Ok x) is = record { calls = record { least = omega (arith, is); most = omega (arith, is) }; done = is }
      opens_by (Err e) is = record { calls = record { least = omega (arith, is); most = omega (arith, is) }; done = tt }

      pub from_start : (r : Result (Replayed M) (Or (Halt LossyOffence))) → HasLossyPlayed mch l s t losses inputs name files files' mid fabric' r → HasLossyReplayed mch l s t losses inputs name files files' fabric fabric' r
      from_start r played = record {
        answered = widened (AndThen (Allowed {E = Halt LossyOffence}) (λ _. right_of)) right_of (world files fabric) (world files' fabric') r (after_leave right_of)
            (goes_on {next = λ _. right_of} (world files fabric) (world files mid) (world files' fabric') tt r leave played.answered);
        ended = played.ended;
        near = played.near;
        opens = opens_by r (played.opens ∙ opened);
        layout = played.layout;
      }

-- the same of a net that was made of these parts
pub of_net : {C M : Type 0} (mch : Machines M) (l : Layout) (s : Shape) (t : Timing) (losses : ℕ) (inputs lent : List (List Value)) (ms : List M) (net : LossyBenchState C M) (name : List ℕ) (files files' : FilesState) (fabric fabric' : FabricState)
    (r : Result (Replayed M) (Or (Halt LossyOffence))) → IsMadeOfLossy l s t losses (length inputs) ms net → lent ≡ inputs →
    HasLossyPlayed mch net.layout net.shape net.timing net.watch.limit lent name files files' fabric fabric' r → HasLossyPlayed mch l s t losses inputs name files files' fabric fabric' r
of_net mch l s t losses inputs lent ms net name files files' fabric fabric' r is same replayed =
    subst (λ z. HasLossyPlayed mch z s t losses inputs name files files' fabric fabric' r) is.layout
    (subst (λ z. HasLossyPlayed mch net.layout z t losses inputs name files files' fabric fabric' r) is.shape
    (subst (λ z. HasLossyPlayed mch net.layout net.shape z losses inputs name files files' fabric fabric' r) is.timing
    (subst (λ z. HasLossyPlayed mch net.layout net.shape net.timing z inputs name files files' fabric fabric' r) is.limit
    (subst (λ z. HasLossyPlayed mch net.layout net.shape net.timing net.watch.limit z name files files' fabric fabric' r) same replayed))))
