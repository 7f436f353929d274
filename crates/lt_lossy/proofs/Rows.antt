-- The rows of losses, and all others.
use Rattle.std.proofs.Common.{◌≡◌, ◌≢◌, ℕ, List, Bool, true, false, Option, Some, None, Result, Ok, Err, refl, sym, ◌∙◌, ap, if◌then◌else◌}
use Rattle.std.specs.Prelude.{codes}
use Rattle.std.specs.Str.{bytes_eq}
use Rattle.lt_arch.specs.declared.chan.ChanKind.TheVariants.{Data, Ack}
use Rattle.lt_arch.specs.declared.event.Event.{Event}
use Rattle.lt_arch.specs.declared.shape.Shape.{Shape}
use Rattle.lt_rows.specs.declared.fault.RowFault.{RowFault}
use Rattle.lt_rows.specs.declared.fault.RowFault.TheVariants.{Kind}
use Rattle.lt_rows.specs.Fields.{Fields, fields_of}
use Rattle.lt_rows.specs.Events.{time_in, chan_named, event_at, event_in, event_of, timed_event}
use Rattle.lt_rows.proofs.Ends.{decides_eq}
use Rattle.lt_lossy.specs.Events.{loss_event, plain_event, lossy_event_at, timed_lossy_event, lossy_event_in, lossy_event_of}

-- no event without losses has the kind of a loss
data_is_none : (s : Shape) (place : List ℕ) (at : ℕ) → event_at s (codes "losedata") place at ≡ Err Kind
unfolding event_at
data_is_none s place at = refl

ack_is_none : (s : Shape) (place : List ℕ) (at : ℕ) → event_at s (codes "loseack") place at ≡ Err Kind
unfolding event_at
ack_is_none s place at = refl

module _ (s : Shape) (kind place : List ℕ) (at : ℕ) (r : Result Event RowFault) (is : event_at s kind place at ≡ r) (other : r ≢ Err Kind) where
  not_lost : (lost silent : Bool) → bytes_eq kind (codes "losedata") ≡ lost → bytes_eq kind (codes "loseack") ≡ silent →
      (if lost then loss_event (chan_named s Data place) at else (if silent then loss_event (chan_named s Ack place) at else plain_event (event_at s kind place at))) ≡ plain_event r
  not_lost true silent a b = absurd (other (sym is ∙ (ap (λ (k : List ℕ). event_at s k place at) ((decides_eq kind (codes "losedata")).0 a) ∙ data_is_none s place at)))
  not_lost false true a b = absurd (other (sym is ∙ (ap (λ (k : List ℕ). event_at s k place at) ((decides_eq kind (codes "loseack")).0 b) ∙ ack_is_none s place at)))
  not_lost false false a b = ap plain_event is

  plain-at : lossy_event_at s kind place at ≡ plain_event r
  unfolding lossy_event_at
  plain-at = not_lost (bytes_eq kind (codes "losedata")) (bytes_eq kind (codes "loseack")) refl refl

module _ (s : Shape) (r : Result Event RowFault) (other : r ≢ Err Kind) where
  plain-timed : (f : Fields) (time : Option ℕ) → timed_event s f time ≡ r → timed_lossy_event s f time ≡ plain_event r
  plain-timed f None is = ap plain_event is
  plain-timed f (Some at) is = plain-at s f.kind f.place at r is other

  plain-in : (fields : Option Fields) → event_in s fields ≡ r → lossy_event_in s fields ≡ plain_event r
  plain-in None is = ap plain_event is
  plain-in (Some f) is = plain-timed f (time_in f.time) is

  -- a line that reads as an event, or has another fault than its kind
  pub plain-line : (line : List ℕ) → event_of s line ≡ r → lossy_event_of s line ≡ plain_event r
  unfolding event_of lossy_event_of
  plain-line line is = plain-in (fields_of line) is

-- the kind and the place of a line with this fault or event
pub event_at-line : (s : Shape) (line : List ℕ) (f : Fields) (at : ℕ) (r : Result Event RowFault) → event_of s line ≡ r → fields_of line ≡ Some f → Some at ≡ time_in f.time → event_at s f.kind f.place at ≡ r
unfolding event_of
event_at-line s line f at r is fields time = ap (timed_event s f) time ∙ (ap (event_in s) (sym fields) ∙ is)

pub is_event : (e : Event) → ◌≡◌ {A = Result Event RowFault} (Ok e) (Err Kind) → ⊥
is_event e h = cc

pub is_fault : (f : RowFault) → f ≢ Kind → ◌≡◌ {A = Result Event RowFault} (Err f) (Err Kind) → ⊥
is_fault f other h = let same : f ≡ Kind = cc in other same
