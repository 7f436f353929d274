-- What a network along a schedule answers, from what its net did.
use Rattle.std.proofs.Common.{◌≡◌, ℕ, suc, List, [], length, Option, Some, None, Result, Ok, Err, IsTrue, false, refl, sym, ap, ◌∙◌, subst, arith}
use Rattle.std.specs.Prelude.{IsErrAnd, OnOk}
use Rattle.lt_base.specs.declared.value.Value.{Value}
use Rattle.lt_base.specs.declared.memory.Or.{Or}
use Rattle.lt_base.specs.declared.memory.Or.TheVariants.{Fault, Memory}
use Rattle.lt_base.specs.Behaviour.{RowsFit}
use Rattle.lt_arch.specs.declared.event.Event.{Event}
use Rattle.lt_arch.specs.declared.event.Offence.{Offence}
use Rattle.lt_arch.specs.declared.shape.Shape.{Shape}
use Rattle.lt_arch.specs.declared.timing.Timing.{Timing}
use Rattle.lt_arch.specs.Readers.{node_count}
use Rattle.lt_arch.specs.Schedule.{first_offence}
use Rattle.lt_io.specs.declared.fault.LinkErr.{LinkErr}
use Rattle.lt_io.specs.declared.fault.LinkErr.TheVariants as link
use Rattle.lt_io.specs.Counts.{LinkCountedBy}
use Rattle.lt_io.specs.Visits.{Errand}
use Rattle.lt_io.proofs.Visiting.{visited_none, unvisited, visited_any}
use Rattle.lt_io.specs.FilesState.{FilesState}
use Rattle.lt_io.specs.FabricState.{FabricState, KeepsPromises, OpensAtMostOnce}
use Rattle.lt_answer.specs.World.{World, KeepsWorld, Blame, world}
use Rattle.lt_answer.specs.Answered.{Answered, Verdict, RefusesReading, AndThen}
use Rattle.lt_answer.proofs.Stages.{goes_on, opens_none, runs_short, widened}
use Rattle.lt_schedule.specs.declared.halt.ScheduleRefusal.{ScheduleRefusal}
use Rattle.lt_schedule.specs.Errand.{schedule_errand}
use Rattle.lt_schedule.specs.Rules.{file_judged_by}
use Rattle.lt_schedule.specs.Verdict.{rules_of}
use Rattle.lt_norm.specs.Flat.{Originated}
use Rattle.lt_place.specs.declared.layout.Layout.{Layout}
use Rattle.lt_place.specs.Layout.{IsPlaced}
use Rattle.lt_net.specs.NetModel.{NetState}
use Rattle.lt_net.specs.Kept.{IsSized}
use Rattle.lt_net.specs.Starts.{IsMadeOf}
use Rattle.lt_schedule.specs.declared.halt.Halt.{Halt}
use Rattle.lt_schedule.specs.declared.halt.Halt.TheVariants.{Refused, Read}
use Rattle.lt_net_replay.specs.Played.{IsAtEnd, AtEndOf, play_verdict, HasPlayed}
use Rattle.lt_net_replay.specs.Plays.{KeepsPlay}
use Rattle.lt_net_start.specs.Blamed.{ReplayEndsWith, play_blame, link_fault}
use Rattle.lt_net.specs.declared.replayed.Replayed.{Replayed}
use Rattle.lt_net_replay.specs.Sound.{PlanIsSound}
use Rattle.lt_net_start.specs.Ends.{FinishesBy}
use Rattle.lt_net_replay.specs.Replays.{ReplayIsTaken, IsReplay, replay_verdict, HasReplayed}
use Rattle.lt_net_replay.proofs.AtTheEnd.{is_replay}
use Rattle.lt_net_replay.proofs.SoundNetworks.{sound_of_equals}
use Rattle.lt_machine.specs.declared.machine.Machine.{Ghosts as Machines}
use Rattle.lt_arch.specs.declared.controller.Controller.{Ghosts as Controls}
use Rattle.lt_net_start.proofs.Onward.{at_error, Allowed, after_leave}

module _ {C M : Type 0} (ctl : Controls C) (mch : Machines M)
    (l : Layout) (s : Shape) (t : Timing) (inputs : List (List Value)) (name : List ℕ) (files files' : FilesState) (fabric : FabricState) where
  -- nothing was played yet
  module _ (fabric' : FabricState) (keeps : KeepsPromises fabric fabric') (steady : IsTrue fabric.sound → fabric'.faults ≡ fabric.faults) (calls : OpensAtMostOnce fabric fabric') where
    abbrev ends_at : List Event → Replayed M → Type 0
    ends_at = IsReplay mch l s t inputs fabric'

    abbrev right_of : Verdict (Replayed M) (Halt Offence)
    right_of = replay_verdict ends_at s t (length inputs) (files.named name)

    unplayed_keeps : KeepsWorld (world files fabric) (world files fabric')
    unplayed_keeps = record { files = record { sound = refl; told = refl; named = refl }; fabric = keeps; steady = steady }

    -- the fabric was not opened
    pub not_opened : (e : LinkErr) → LinkCountedBy fabric.faults fabric'.faults e → HasReplayed mch l s t inputs name files files fabric fabric' (Err (link_fault e))
    not_opened link.Failed rose = record {
      answered = record {
        keeps = unplayed_keeps;
        visits = unvisited (schedule_errand name) files.visits;
        cause = (refl, rose);
        exact = λ told calm. absurd (let same = calm.fabric in omega (arith, rose, same));
        sound = λ told sound rose. absurd (omega (arith, rose));
      };
      ended = tt;
      near = λ told. tt;
      opens = record { calls = calls; done = tt };
      layout = tt;
    }
    not_opened link.Memory same = record {
      answered = record {
        keeps = unplayed_keeps;
        visits = unvisited (schedule_errand name) files.visits;
        cause = record { files = refl; fabric = same };
        exact = λ told calm. tt;
        sound = λ told sound rose. absurd (omega (arith, rose));
      };
      ended = tt;
      near = λ told. tt;
      opens = record { calls = calls; done = tt };
      layout = tt;
    }

-- there is no memory to begin with
pub no_memory : {M : Type 0} (mch : Machines M) (l : Layout) (s : Shape) (t : Timing) (inputs : List (List Value)) (name : List ℕ) (files : FilesState) (fabric : FabricState)
    (r : Result (Replayed M) (Or (Halt Offence))) → IsErrAnd r (λ f. f ≡ Memory) → HasReplayed mch l s t inputs name files files fabric fabric r
no_memory mch l s t inputs name files fabric r is =
    at_error (λ answer. HasReplayed mch l s t inputs name files files fabric fabric answer) r Memory is (record { answered = runs_short (world files fabric); ended = tt; near = λ told. tt; opens = record { calls = opens_none fabric; done = tt }; layout = tt })

-- what is taken from a net at the end of these events is what they lead to
pub replayed_at : {C M : Type 0} (ctl : Controls C) (mch : Machines M) (l : Layout) (s : Shape) (t : Timing) (inputs : List (List Value)) (fabric' : FabricState) (old new : NetState C M) (ms : List M) (cs : List C) →
    IsMadeOf l s t (length inputs) ms cs old.bench → (f : Originated) → IsPlaced f l → RowsFit f.func inputs → PlanIsSound l s t (length inputs) → IsSized new.bench → length new.bench.tracks ≡ length new.bench.layout.outs →
    (taken : Replayed M) → ReplayIsTaken new.bench taken → (events : List Event) → IsAtEnd ctl mch old new inputs fabric' events → IsReplay mch l s t inputs fabric' events taken
replayed_at ctl mch l s t inputs fabric' old new ms cs is f placed fit networks sized tracks taken taken_is events last =
    let layout_is : new.bench.layout ≡ l = last.fixed.layout ∙ is.layout in
    let shape_is : new.bench.shape ≡ s = last.fixed.shape ∙ is.shape in
    let timing_is : new.bench.timing ≡ t = last.fixed.timing ∙ is.timing in
    let rows_are : new.bench.rows ≡ length inputs = last.fixed.rows ∙ is.rows in
    subst (λ z. IsReplay mch z s t inputs fabric' events taken) layout_is
    (subst (λ z. IsReplay mch new.bench.layout z t inputs fabric' events taken) shape_is
    (subst (λ z. IsReplay mch new.bench.layout new.bench.shape z inputs fabric' events taken) timing_is
    (is_replay ctl mch new.bench inputs events fabric' last.lists rows_are last.keeps sized tracks
    (ap node_count shape_is ∙ networks.fits.channels.nodes ∙ sym (ap (λ (z : Layout). length z.nodes) layout_is))
    ((λ i. first_offence (last.fixed.shape i) (last.fixed.timing i) (last.fixed.rows i) events) ∙ last.admissible)
    last.ends f (subst (IsPlaced f) (sym layout_is) placed) fit
    (sound_of_equals l new.bench.layout s new.bench.shape t new.bench.timing (length inputs) layout_is shape_is timing_is networks)
    taken taken_is)))

-- a step's answer as that of another, where what is right of the one is right of the other
module _ {T U E : Type 0} (blame : E → Blame) (es : List Errand) (V : Verdict T E) (W : Verdict U E) (a b : World) (wider : (e : E) → V (Err e) → W (Err e)) where
  reads_too : RefusesReading blame V → RefusesReading blame W
  reads_too reading = (reading.0, reading.1, wider reading.0 reading.2)

  error_too : (e : Or E) → Answered blame es V a b (Err e) → Answered blame es W a b (Err e)
  error_too (Fault e) answered = record {
    keeps = answered.keeps;
    visits = answered.visits;
    cause = answered.cause;
    exact = λ told calm. wider e (answered.exact told calm);
    sound = λ told sound rose. reads_too (answered.sound told sound rose);
  }
  error_too Memory answered = record {
    keeps = answered.keeps;
    visits = answered.visits;
    cause = answered.cause;
    exact = λ told calm. tt;
    sound = λ told sound rose. reads_too (answered.sound told sound rose);
  }

  value_too : (x : T) (y : U) → (V (Ok x) → W (Ok y)) → Answered blame es V a b (Ok x) → Answered blame es W a b (Ok y)
  value_too x y right answered = record {
    keeps = answered.keeps;
    visits = answered.visits;
    cause = answered.cause;
    exact = λ told calm. right (answered.exact told calm);
    sound = λ told sound rose. reads_too (answered.sound told sound rose);
  }

  short_too : (x : T) → Answered blame es V a b (Ok x) → Answered blame es W a b (Err Memory)
  short_too x answered = record {
    keeps = answered.keeps;
    visits = visited_any es a.files.visits b.files.visits false answered.visits;
    cause = answered.cause;
    exact = λ told calm. tt;
    sound = λ told sound rose. reads_too (answered.sound told sound rose);
  }

module _ {C M : Type 0} (ctl : Controls C) (mch : Machines M)
    (l : Layout) (s : Shape) (t : Timing) (inputs later : List (List Value)) (name : List ℕ) (files files' : FilesState) (fabric mid fabric' : FabricState)
    (opened : KeepsPromises fabric mid) (calm : mid.faults ≡ fabric.faults) (once : mid.opens ≡ suc fabric.opens) (old new : NetState C M) (ms : List M) (cs : List C) (is : IsMadeOf l s t (length inputs) ms cs old.bench) where
  abbrev ends_at_last : List Event → Type 0
  ends_at_last = IsAtEnd ctl mch old new inputs fabric'

  abbrev comes_to : List Event → Replayed M → Type 0
  comes_to = IsReplay mch l s t inputs fabric'

  abbrev played_right : Option (List ℕ) → Verdict (Unit {0}) (Halt Offence)
  played_right file = play_verdict ends_at_last old.bench.shape old.bench.timing old.bench.rows file

  abbrev replayed_right : Option (List ℕ) → Verdict (Replayed M) (Halt Offence)
  replayed_right file = replay_verdict comes_to s t (length inputs) file

  same_verdict : (bytes : List ℕ) → file_judged_by (rules_of old.bench.shape old.bench.timing old.bench.rows) bytes ≡ file_judged_by (rules_of s t (length inputs)) bytes
  same_verdict bytes i = file_judged_by (rules_of (is.shape i) (is.timing i) (is.rows i)) bytes

  error_ends : (v : Result (List Event) (ScheduleRefusal Offence)) (e : Halt Offence) → ReplayEndsWith (AtEndOf ends_at_last) v (Err e) → ReplayEndsWith comes_to v (Err e)
  error_ends (Ok events) e h = absurd h
  error_ends (Err fault) e h = let same : e ≡ Refused fault = cc h in ap (λ x. Err x) same

  value_ends : (v : Result (List Event) (ScheduleRefusal Offence)) (x : Unit {0}) (taken : Replayed M) → ((events : List Event) → ends_at_last events → comes_to events taken) → ReplayEndsWith (AtEndOf ends_at_last) v (Ok x) → ReplayEndsWith comes_to v (Ok taken)
  value_ends (Ok events) x taken goes h = goes events h
  value_ends (Err fault) x taken goes h = absurd (cc h)

  error_wider : (file : Option (List ℕ)) (e : Halt Offence) → played_right file (Err e) → replayed_right file (Err e)
  unfolding play_verdict replay_verdict
  error_wider None e h = let same : e ≡ Read = cc h in ap (λ x. Err x) same
  error_wider (Some bytes) e h = subst (λ v. ReplayEndsWith comes_to v (Err e)) (same_verdict bytes) (error_ends (file_judged_by (rules_of old.bench.shape old.bench.timing old.bench.rows) bytes) e h)

  value_wider : (file : Option (List ℕ)) (x : Unit {0}) (taken : Replayed M) → ((events : List Event) → ends_at_last events → comes_to events taken) → played_right file (Ok x) → replayed_right file (Ok taken)
  unfolding play_verdict replay_verdict
  value_wider None x taken goes h = absurd (cc h)
  value_wider (Some bytes) x taken goes h = subst (λ v. ReplayEndsWith comes_to v (Ok taken)) (same_verdict bytes) (value_ends (file_judged_by (rules_of old.bench.shape old.bench.timing old.bench.rows) bytes) x taken goes h)

  leave : Answered play_blame [] (Allowed {E = Halt Offence}) (world files fabric) (world files mid) (Ok tt)
  leave = record {
    keeps = record { files = record { sound = refl; told = refl; named = refl }; fabric = opened; steady = λ sound. calm };
    visits = visited_none files.visits _;
    cause = record { files = refl; fabric = calm };
    exact = λ told calm. tt;
    sound = λ told sound rose. absurd (omega (arith, rose));
  }

  from_start : (r : Result (Replayed M) (Or (Halt Offence))) → Answered play_blame (schedule_errand name) (replayed_right (files.named name)) (world files mid) (world files' fabric') r → Answered play_blame (schedule_errand name) (replayed_right (files.named name)) (world files fabric) (world files' fabric') r
  from_start r answered =
      widened (AndThen (Allowed {E = Halt Offence}) (λ _. replayed_right (files.named name))) (replayed_right (files.named name)) (world files fabric) (world files' fabric') r (after_leave (replayed_right (files.named name)))
      (goes_on {next = λ _. replayed_right (files.named name)} (world files fabric) (world files mid) (world files' fabric') tt r leave answered)

  -- no event opens the fabric again
  same_opens : KeepsPlay mch.size old new inputs later mid fabric' → fabric'.opens ≡ suc fabric.opens
  same_opens keeps = keeps.fabric_kept.opens ∙ once

  one_call : KeepsPlay mch.size old new inputs later mid fabric' → OpensAtMostOnce fabric fabric'
  one_call keeps = let is = same_opens keeps in record { least = omega (arith, is); most = omega (arith, is) }

  -- the play was refused
  refused_play : (e : Or (Halt Offence)) → HasPlayed ctl mch old new inputs later name files files' mid fabric' (Err e) → HasReplayed mch l s t inputs name files files' fabric fabric' (Err e)
  refused_play e played = record {
    answered = from_start (Err e) (error_too play_blame (schedule_errand name) (played_right (files.named name)) (replayed_right (files.named name)) (world files mid) (world files' fabric') (error_wider (files.named name)) e played.answered);
    ended = tt;
    near = played.near;
    opens = record { calls = one_call played.keeps; done = tt };
    layout = tt;
  }

  pub refused_by : (r : Result (Replayed M) (Or (Halt Offence))) (e : Or (Halt Offence)) → IsErrAnd r (λ f. f ≡ e) → (lent : List (List Value)) → lent ≡ inputs → HasPlayed ctl mch old new lent later name files files' mid fabric' (Err e) →
      HasReplayed mch l s t inputs name files files' fabric fabric' r
  refused_by r e is lent same played =
      at_error (λ answer. HasReplayed mch l s t inputs name files files' fabric fabric' answer) r e is
      (refused_play e (subst (λ z. HasPlayed ctl mch old new z later name files files' mid fabric' (Err e)) same played))

  -- the play went to its end
  module _ (x : Unit {0}) (lent : List (List Value)) (same : lent ≡ inputs) (played_by : HasPlayed ctl mch old new lent later name files files' mid fabric' (Ok x)) where
    played : HasPlayed ctl mch old new inputs later name files files' mid fabric' (Ok x)
    played = subst (λ z. HasPlayed ctl mch old new z later name files files' mid fabric' (Ok x)) same played_by

    -- there is no memory for what is taken
    untaken : HasReplayed mch l s t inputs name files files' fabric fabric' (Err Memory)
    untaken = record {
      answered = from_start (Err Memory) (short_too play_blame (schedule_errand name) (played_right (files.named name)) (replayed_right (files.named name)) (world files mid) (world files' fabric') (error_wider (files.named name)) x played.answered);
      ended = tt;
      near = λ told. tt;
      opens = record { calls = one_call played.keeps; done = tt };
      layout = tt;
    }

    pub untaken_by : (r : Result (Replayed M) (Or (Halt Offence))) → IsErrAnd r (λ f. f ≡ Memory) → HasReplayed mch l s t inputs name files files' fabric fabric' r
    untaken_by r is = at_error (λ answer. HasReplayed mch l s t inputs name files files' fabric fabric' answer) r Memory is untaken

    -- it is taken
    module _ (f : Originated) (placed : IsPlaced f l) (fit : RowsFit f.func inputs) (networks : PlanIsSound l s t (length inputs)) (sized : IsSized new.bench) (tracks : length new.bench.tracks ≡ length new.bench.layout.outs)
        (taken : Replayed M) (taken_is : ReplayIsTaken new.bench taken) where
      at_last : (events : List Event) → ends_at_last events → comes_to events taken
      at_last events last = replayed_at ctl mch l s t inputs fabric' old new ms cs is f placed fit networks sized tracks taken taken_is events last

      pub taken_so : HasReplayed mch l s t inputs name files files' fabric fabric' (Ok taken)
      taken_so = record {
        answered = from_start (Ok taken) (value_too play_blame (schedule_errand name) (played_right (files.named name)) (replayed_right (files.named name)) (world files mid) (world files' fabric') (error_wider (files.named name)) x taken (value_wider (files.named name) x taken at_last) played.answered);
        ended = (played.ended.0, at_last played.ended.0 played.ended.1);
        near = λ told. tt;
        opens = record { calls = one_call played.keeps; done = same_opens played.keeps };
        layout = taken_is.layout ∙ played.ended.1.fixed.layout ∙ is.layout;
      }

  -- whatever came of the play
  module _ (lent : List (List Value)) (same : lent ≡ inputs) where
    pub at_end : (p : Result (Unit {0}) (Or (Halt Offence))) → HasPlayed ctl mch old new lent later name files files' mid fabric' p → OnOk p ((h : ℕ) × (new.bench.watch.horizon ≡ Some h))
    at_end (Ok x) played = played.ended.1.horizon
    at_end (Err e) played = tt

    pub finished : (f : Originated) → IsPlaced f l → RowsFit f.func inputs → PlanIsSound l s t (length inputs) → IsSized new.bench → length new.bench.tracks ≡ length new.bench.layout.outs → (p : Result (Unit {0}) (Or (Halt Offence))) →
        HasPlayed ctl mch old new lent later name files files' mid fabric' p → (r : Result (Replayed M) (Or (Halt Offence))) → FinishesBy (ReplayIsTaken new.bench) p r → HasReplayed mch l s t inputs name files files' fabric fabric' r
    finished f placed fit networks sized tracks (Ok x) played (Ok taken) ends = taken_so x lent same played f placed fit networks sized tracks taken ends
    finished f placed fit networks sized tracks (Ok x) played (Err e) ends = untaken_by x lent same played (Err e) ends
    finished f placed fit networks sized tracks (Err e) played r ends =
        subst (λ answer. HasReplayed mch l s t inputs name files files' fabric fabric' answer) (sym ends) (refused_by (Err e) e refl lent same played)

-- the same of an equal layout, shape and timing
pub of_equals : {M : Type 0} (mch : Machines M) (l l' : Layout) (s s' : Shape) (t t' : Timing) (inputs : List (List Value)) (name : List ℕ) (files files' : FilesState) (fabric fabric' : FabricState) (r : Result (Replayed M) (Or (Halt Offence))) →
    l' ≡ l → s' ≡ s → t' ≡ t → HasReplayed mch l' s' t' inputs name files files' fabric fabric' r → HasReplayed mch l s t inputs name files files' fabric fabric' r
of_equals mch l l' s s' t t' inputs name files files' fabric fabric' r same_layout same_shape same_timing replayed =
    subst (λ z. HasReplayed mch z s t inputs name files files' fabric fabric' r) same_layout
    (subst (λ z. HasReplayed mch l' z t inputs name files files' fabric fabric' r) same_shape
    (subst (λ z. HasReplayed mch l' s' z inputs name files files' fabric fabric' r) same_timing replayed))
