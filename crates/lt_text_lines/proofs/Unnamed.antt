-- A number past the nodes, or the channels, names nothing.
use Rattle.std.proofs.Common.{◌≡◌, ◌∙◌, ℕ, ◌≤◌, List, ◌++◌, length, sym, ap, append-nil}
use Rattle.std.proofs.lemmas.Option.{slice_get_past}
use Rattle.lt_arch.specs.declared.shape.Shape.{Shape}
use Rattle.lt_text_lines.specs.ScheduleLines.{name_of_node, channel_text, name_or_none, ends_or_none}

pub no_node : (line : List ℕ) (s : Shape) (n : ℕ) → length s.nodes ≤ n → line ≡ line ++ name_of_node s n
no_node line s n past = sym (append-nil line) ∙ ap (λ o. line ++ name_or_none o) (sym (slice_get_past s.nodes n past))

pub no_channel : (line : List ℕ) (s : Shape) (c : ℕ) → length s.channels ≤ c → line ≡ line ++ channel_text s c
no_channel line s c past = sym (append-nil line) ∙ ap (λ o. line ++ ends_or_none s o) (sym (slice_get_past s.channels c past))
