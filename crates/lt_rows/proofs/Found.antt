-- A node, a channel and a row that were found at once.
use Rattle.std.proofs.Common.{◌≡◌, ℕ, ◌≤◌, List, ◌∷◌, ◌++◌, length, Some, Ok, sym, ap, subst, ◌∙◌}
use Rattle.lt_arch.specs.declared.chan.ChanKind.{ChanKind}
use Rattle.lt_arch.specs.declared.event.Event.{Event}
use Rattle.lt_arch.specs.declared.shape.Shape.{Shape}
use Rattle.lt_rows.specs.Events.{named_node_number, chan_named, event_of}
use Rattle.lt_rows.specs.Texts.{event_place_text}
use Rattle.lt_rows.specs.Written.{IsNodeOf, IsChanOf, IsTimed, IsWritten}
use Rattle.lt_rows.proofs.Readback.{node_back, chan_back, reads_by_text}

pub node_found : (s : Shape) (name : List ℕ) (n : ℕ) → IsNodeOf s name n → named_node_number s name ≡ Some n
node_found s name n is = ap (named_node_number s) is.name_is ∙ node_back s n is.within

pub chan_found : (s : Shape) (kind : ChanKind) (ends : List ℕ) (c : ℕ) → IsChanOf s kind ends c → chan_named s kind ends ≡ Some c
chan_found s kind ends c is = (λ i. chan_named s (is.kind_is i) (is.ends_are i)) ∙ chan_back s c is.within

pub written_reads : (s : Shape) (line rest : List ℕ) (time : ℕ) (e : Event) → IsTimed line time rest → IsWritten s rest time e → event_of s line ≡ Ok e
written_reads s line rest time e timed written =
    let whole : line ≡ timed.digits ++ 44 ∷ event_place_text s e = timed.line_is ∙ ap (λ (l : List ℕ). timed.digits ++ 44 ∷ l) written.rest_is in
    ap (event_of s) whole
    ∙ reads_by_text s timed.digits e (timed.time_is ∙ ap Some (sym written.time_is)) written.of_shape.placed (subst (λ (l : List ℕ). length l ≤ 4096) whole timed.short)
