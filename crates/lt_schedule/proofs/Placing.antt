-- The event that a line reads as is one of the shape, in the range of times.
use Rattle.std.proofs.Common.{◌≡◌, ◌<◌, ◌≤◌, ℕ, Bool, true, false, ◌&&◌, List, [], ◌∷◌, codes, bytes_eq, map, Option, Some, None, Ok, Err, if◌then◌else◌, refl, subst}
use Rattle.std.specs.List.{All}
use Rattle.std.proofs.lemmas.List.Elements.{All-cons, All-nil, All-head, All-tail}
use Rattle.std.proofs.lemmas.List.Quantifiers.{position-Some}
use Rattle.lt_base.specs.Digits.{number_of}
use Rattle.lt_base.proofs.Digits.{up_to-some}
use Rattle.lt_arch.specs.declared.chan.Chan.{Chan}
use Rattle.lt_arch.specs.declared.chan.ChanKind.{ChanKind}
use Rattle.lt_arch.specs.declared.chan.ChanKind.TheVariants.{Data, Ack}
use Rattle.lt_arch.specs.declared.event.Event.{Event}
use Rattle.lt_arch.specs.declared.event.Event.TheVariants.{Act, Del, End}
use Rattle.lt_arch.specs.declared.shape.Shape.{Shape}
use Rattle.lt_arch.specs.Readers.{node_count, chan_count, no_chan}
use Rattle.lt_arch.specs.Schedule.{AreUpTo, IsEventOf}
use Rattle.lt_rows.specs.declared.fault.RowFault.TheVariants.{Kind}
use Rattle.lt_rows.specs.Fields.{Fields, fields_of}
use Rattle.lt_rows.specs.Rows.{FileRow}
use Rattle.lt_rows.specs.Events.{named_node_number, chan_named, node_event, chan_event, end_event, event_at, timed_event, event_in, event_of, time_in, is_of_kind, ends_text}
use Rattle.lt_schedule.specs.Settled.{event_in_row, read_event}

node_within : (s : Shape) (name : List ℕ) (n : ℕ) → named_node_number s name ≡ Some n → n < node_count s
unfolding named_node_number
node_within s name n is = (position-Some (λ node. bytes_eq node name) s.nodes n [] is).0

chan_within : (s : Shape) (kind : ChanKind) (text : List ℕ) (c : ℕ) → chan_named s kind text ≡ Some c → c < chan_count s
unfolding chan_named
chan_within s kind text c is = (position-Some (λ (c : Chan). is_of_kind kind c.kind && bytes_eq text (ends_text s c)) s.channels c no_chan is).0

timely : (text : List ℕ) (at : ℕ) → time_in text ≡ Some at → at ≤ 1000000000000000
unfolding time_in
timely text at is = (up_to-some 1000000000000000 (number_of text) at is).1

module _ (s : Shape) (at : ℕ) (low : at ≤ 1000000000000000) (e : Event) where
  node_by : (o : Option ℕ) → ((n : ℕ) → o ≡ Some n → n < node_count s) → node_event o at ≡ Ok e → IsEventOf s e
  node_by None within is = cc
  node_by (Some n) within is = let same : Act n at ≡ e = cc in subst (IsEventOf s) same (record { placed = within n refl; timely = low })

  chan_by : (o : Option ℕ) → ((c : ℕ) → o ≡ Some c → c < chan_count s) → chan_event o at ≡ Ok e → IsEventOf s e
  chan_by None within is = cc
  chan_by (Some c) within is = let same : Del c at ≡ e = cc in subst (IsEventOf s) same (record { placed = within c refl; timely = low })

  end_by : (place : List ℕ) → end_event place at ≡ Ok e → IsEventOf s e
  end_by [] is = let same : End at ≡ e = cc in subst (IsEventOf s) same (record { placed = tt; timely = low })
  end_by (b ∷ bs) is = cc

  kind_by : (act data_kind ack end : Bool) (place : List ℕ) → (
      if act then node_event (named_node_number s place) at else
      (if data_kind then chan_event (chan_named s Data place) at else (if ack then chan_event (chan_named s Ack place) at else (if end then end_event place at else Err Kind)))
      ) ≡ Ok e → IsEventOf s e
  kind_by true data_kind ack end place is = node_by (named_node_number s place) (node_within s place) is
  kind_by false true ack end place is = chan_by (chan_named s Data place) (chan_within s Data place) is
  kind_by false false true end place is = chan_by (chan_named s Ack place) (chan_within s Ack place) is
  kind_by false false false true place is = end_by place is
  kind_by false false false false place is = cc

  at_by : (kind place : List ℕ) → event_at s kind place at ≡ Ok e → IsEventOf s e
  unfolding event_at
  at_by kind place is = kind_by (bytes_eq kind (codes "act")) (bytes_eq kind (codes "data")) (bytes_eq kind (codes "ack")) (bytes_eq kind (codes "end")) place is

module _ (s : Shape) (e : Event) where
  timed_by : (f : Fields) (time : Option ℕ) → ((at : ℕ) → time ≡ Some at → at ≤ 1000000000000000) → timed_event s f time ≡ Ok e → IsEventOf s e
  timed_by f None low is = cc
  timed_by f (Some at) low is = at_by s at (low at refl) e f.kind f.place is

  in_by : (fields : Option Fields) → event_in s fields ≡ Ok e → IsEventOf s e
  in_by None is = cc
  in_by (Some f) is = timed_by f (time_in f.time) (timely f.time) is

  pub of_shape : (line : List ℕ) → event_of s line ≡ Ok e → IsEventOf s e
  unfolding event_of
  of_shape line is = in_by (fields_of line) is

-- all events that these rows read as
pub all_of_shape : (s : Shape) (left : List FileRow) (es : List Event) → map (event_in_row s) left ≡ map read_event es → All (IsEventOf s) es
all_of_shape s [] [] reads = All-nil (IsEventOf s)
all_of_shape s [] (e ∷ es) reads = cc
all_of_shape s (row ∷ later) [] reads = cc
all_of_shape s (row ∷ later) (e ∷ es) reads = All-cons (IsEventOf s) e es (of_shape s e row.line cc) (all_of_shape s later es cc)

pub up_to : (s : Shape) (es : List Event) → All (IsEventOf s) es → AreUpTo 1000000000000000 es
up_to s [] all = tt
up_to s (e ∷ es) all = ((All-head (IsEventOf s) e es all).timely, up_to s es (All-tail (IsEventOf s) e es all))
