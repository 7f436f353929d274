-- The text of a setup's plan.
use Rattle.std.specs.Prelude.{ℕ, zero, suc, List, [], ◌∷◌, ◌++◌, length, map, codes, decimal, Option, Some, None, if◌then◌else◌, slice_index_or}
use Rattle.lt_arch.specs.declared.timing.Timing.{Timing}
use Rattle.lt_timing.specs.Bounds.{back_pressure_cycle, back_pressure_bound}
use Rattle.lt_timing.specs.Least.{least_send, least_execute}
use Rattle.lt_arch.specs.Placement.{node_names}
use Rattle.lt_config.specs.declared.config.Config.{Config}
use Rattle.lt_text_lines.specs.PlanNumbers.{node_least_cycle, least_bound}

-- a title, what the number is, the number and a line feed
abbrev pub plan_line : (title label : List ℕ) → (number : ℕ) → List ℕ
plan_line title label number = title ++ (label ++ (decimal number ++ 10 ∷ []))

-- the least countdowns of node n, and its cycles
abbrev pub countdown_lines : Timing → (title : List ℕ) → (n : ℕ) → List ℕ
countdown_lines t title n = plan_line title (codes "least execute ") (least_execute t n) ++ plan_line title (codes "least send ") (least_send t n)

abbrev pub cycle_lines : Timing → (title : List ℕ) → (n : ℕ) → List ℕ
cycle_lines t title n = plan_line title (codes "timebased cycle ") (node_least_cycle t n) ++ plan_line title (codes "backpressure cycle ") (back_pressure_cycle t)

abbrev pub node_lines : Timing → (title : List ℕ) → (n : ℕ) → List ℕ
node_lines t title n = countdown_lines t title n ++ cycle_lines t title n

-- and its bounds for a horizon
abbrev pub bound_lines : Timing → (horizon : ℕ) → (title : List ℕ) → (n : ℕ) → List ℕ
bound_lines t horizon title n = plan_line title (codes "timebased bound ") (least_bound t n horizon) ++ plan_line title (codes "backpressure bound ") (back_pressure_bound t n horizon)

-- what stands before the lines of each node: its name and a space where nodes differ; equal nodes have one block with no title
abbrev pub titles_of : Config → List (List ℕ)
titles_of c = if c.mixed then map (λ name. name ++ 32 ∷ []) (node_names c.placement) else [] ∷ []

abbrev pub title_at : (titles : List (List ℕ)) → (n : ℕ) → List ℕ
title_at titles n = slice_index_or titles n []

-- the blocks of the nodes below n, in their order
abbrev pub titled : (block : (title : List ℕ) → (n : ℕ) → List ℕ) → (titles : List (List ℕ)) → (n : ℕ) → List ℕ
titled block titles zero = []
titled block titles (suc n) = titled block titles n ++ block (title_at titles n) n

-- the blocks of all nodes
abbrev pub blocks_of : Config → (block : (title : List ℕ) → (n : ℕ) → List ℕ) → List ℕ
blocks_of c block = titled block (titles_of c) (length (titles_of c))

-- the countdowns and cycles and, with a horizon, the bounds
abbrev pub plan_of : Config → (horizon : Option ℕ) → List ℕ
plan_of c None = blocks_of c (node_lines c.timing)
plan_of c (Some horizon) = blocks_of c (node_lines c.timing) ++ blocks_of c (bound_lines c.timing horizon)
