use Rattle.std.proofs.Common.{◌≡◌, ℕ, Bool, List, Result, Ok, Err, IfOk}
use Rattle.lt_base.specs.declared.memory.Memory.{Memory}
use Rattle.lt_arch.specs.declared.shape.Shape.{Shape}
use Rattle.lt_arch.specs.declared.timing.Timing.{Timing}
use Rattle.lt_arch.specs.declared.pace.Pace.{Pace}
use Rattle.lt_place.specs.declared.layout.Layout.{Layout}
use Rattle.lt_c_heads.specs.declared.file.NodeFile.{NodeFile}
use Rattle.lt_c_node.specs.NodeText.{emitted_text}
use Rattle.lt_c_node.specs.NodeOf.{IsFileOfNode, IsEmitted}
use Rattle.lt_c_node.proofs.building.emit_node.Goals as goal

emitted : (r : Result (List ℕ) Memory) (l : Layout) (s : Shape) (t : Timing) (pace : Pace) (n : ℕ) (header : Bool) (f : NodeFile) → IsFileOfNode l s t pace n f → IfOk r (λ text. text ≡ emitted_text header f) → IfOk r (IsEmitted l s t pace n header)
emitted (Err x) l s t pace n header f g h = tt
emitted (Ok text) l s t pace n header f g h = record { file = f; is_file = g; is_text = h }

pub returns : goal.returns
returns c = emitted c.print.result c.args.layout.now c.args.shape.now c.args.timing.now c.args.pace c.args.node c.args.header c.in_ok-file.file c.in_ok-file.ensures c.print.ensures
