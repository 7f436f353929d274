-- What stands around the rows: the axis, the first failure, the lines of text and the legend.
use Rattle.std.specs.Prelude.{ℕ, ◌+◌, ◌-◌, ◌/◌, ◌%◌, ◌==◌, max, Bool, nat_lt, List, [], ◌∷◌, ◌++◌, codes, is_some, Option, Some, None, if◌then◌else◌}
use Rattle.lt_scale.specs.declared.chart.Chart.{Chart}
use Rattle.lt_scale.specs.Chart.{instant_x, instant_middle, chart_right, shows_instant}
use Rattle.lt_scale.specs.Room.{tick_step}
use Rattle.lt_svg.specs.Pieces.{filled_template, escaped}
use Rattle.lt_plot.specs.declared.plot.Plot.{Plot}
use Rattle.lt_plot.specs.Pieces.{pieces_from}

-- a tick with its number at each instant that is a multiple of the step
unfoldable pub plot_tick : Chart → (bottom step k : ℕ) → List ℕ
plot_tick c bottom step k =
    if k % max step 1 == 0 then
    filled_template (codes "<path d=\"M% %v5\" class=\"nl\"/><text x=\"%\" y=\"%\" class=\"ts m s\">%</text>\n") (instant_middle c k ∷ (bottom + 4) ∷ instant_middle c k ∷ (bottom + 21) ∷ k ∷ [])
    else []

unfoldable pub plot_ticks : Chart → (bottom step : ℕ) → List ℕ
plot_ticks c bottom step = pieces_from (plot_tick c bottom step) c.first c.count

-- the axis below the rows
unfoldable pub plot_axis : Chart → (bottom : ℕ) → List ℕ
plot_axis c bottom =
    filled_template (codes "<path d=\"M% %H%\" class=\"nl\"/><text x=\"12\" y=\"%\" class=\"ts s\">instant</text>\n") (c.left ∷ (bottom + 4) ∷ chart_right c ∷ (bottom + 21) ∷ [])
    ++ plot_ticks c bottom (tick_step c)

-- the frame of an instant over all rows
unfoldable pub failure_frame : Chart → (top bottom k : ℕ) → List ℕ
failure_frame c top bottom k =
    let breadth = max 2 (instant_x c (k + 1) - instant_x c k) in
    filled_template (codes "<rect x=\"%\" y=\"%\" width=\"%\" height=\"%\" class=\"badz\"/><rect x=\"%\" y=\"%\" width=\"%\" height=\"%\" class=\"bad\"/>\n")
    (instant_x c k ∷ top ∷ breadth ∷ (bottom - top) ∷ instant_x c k ∷ (top - 3) ∷ breadth ∷ (bottom - top + 6) ∷ [])

-- its note: to the right in the left half, and else to the left
unfoldable pub failure_note : Chart → (top k : ℕ) → List ℕ
failure_note c top k =
    if nat_lt (instant_x c k) (c.left + c.breadth / 2) then filled_template (codes "<text x=\"%\" y=\"%\" class=\"badt b s\">fails at %</text>\n") (instant_x c k ∷ (top - 6) ∷ k ∷ [])
    else filled_template (codes "<text x=\"%\" y=\"%\" class=\"badt b s e\">fails at %</text>\n") (instant_x c (k + 1) ∷ (top - 6) ∷ k ∷ [])

abbrev pub failure_at : Chart → (top bottom k : ℕ) → List ℕ
failure_at c top bottom k = if shows_instant c k then failure_frame c top bottom k ++ failure_note c top k else []

-- the instant of the first failure, where there is one and it is shown
unfoldable pub plot_failure : Chart → (top bottom : ℕ) → Option ℕ → List ℕ
plot_failure c top bottom None = []
plot_failure c top bottom (Some k) = failure_at c top bottom k

-- the opening tag
unfoldable pub plot_frame : (width height : ℕ) → List ℕ
plot_frame w h = filled_template (codes "<svg xmlns=\"http://www.w3.org/2000/svg\" width=\"%\" height=\"%\" viewBox=\"0 0 % %\" role=\"img\" aria-labelledby=\"t d\">\n") (w ∷ h ∷ w ∷ h ∷ [])

-- the title, and the facts with what an observer says: these are read aloud
unfoldable pub plot_titles : Plot → List ℕ
plot_titles p =
    (codes "<title id=\"t\">" ++ (escaped p.title ++ codes "</title>\n"))
    ++ ((codes "<desc id=\"d\">" ++ (escaped p.facts ++ codes ". ")) ++ (codes "" ++ (escaped p.verdict ++ codes "</desc>\n")))

-- the style, light and dark
abbrev pub common_style : List ℕ
common_style = codes "<style>text{font:11px 'DejaVu Sans Mono',Menlo,Consolas,'Liberation Mono',monospace}.b{font-weight:bold}.s{font-size:10px}.e{text-anchor:end}.m{text-anchor:middle}.gr{stroke-opacity:.3}.nl{stroke-width:1}.bad{fill:none;stroke-width:2;stroke-dasharray:6 4}.badz{fill-opacity:.1}.ln{fill:none;stroke-width:2}.lp{fill:none;stroke-width:1.5;stroke-dasharray:3 2}.ar{fill-opacity:.16}.fr{fill:none;stroke-width:1.5}.zb{fill-opacity:.07;fill:#7f8c99}\n"

abbrev pub light_style : List ℕ
light_style = codes ".bg{fill:#ffffff}.gr{stroke:#8a939c}.nl{stroke:#6b747d}.tx{fill:#1c2126}.ts{fill:#59626b}.ex{fill:#12304a}.bad{stroke:#c4170c}.badt{fill:#c4170c}.badz{fill:#c4170c}.ln{stroke:#0069ab}.ar{fill:#0069ab}.lp{stroke:#8fa3b3}.fr{stroke:#12304a}.pv{fill:#6b7a87}.dot{fill:#59626b}\n"

abbrev pub dark_style : List ℕ
dark_style = codes "@media(prefers-color-scheme:dark){.bg{fill:#15191e}.gr{stroke:#8a939c}.nl{stroke:#96a0aa}.tx{fill:#e6eaee}.ts{fill:#a5afb9}.ex{fill:#dbe9f6}.bad{stroke:#ff7a5c}.badt{fill:#ff7a5c}.badz{fill:#ff7a5c}.ln{stroke:#5bb8f2}.ar{fill:#5bb8f2}.lp{stroke:#6d8091}.fr{stroke:#dbe9f6}.pv{fill:#93a3b1}.dot{fill:#a5afb9}}</style>\n"

unfoldable pub plot_style : List ℕ
plot_style = common_style ++ (light_style ++ dark_style)

-- all that stands before what is drawn
unfoldable pub plot_head : Plot → (width height : ℕ) → List ℕ
plot_head p w h = plot_frame w h ++ (plot_titles p ++ (plot_style ++ filled_template (codes "<rect width=\"%\" height=\"%\" class=\"bg\"/>\n") (w ∷ h ∷ [])))

-- what an observer says, in red where it fails
unfoldable pub judgement_text : Plot → List ℕ
judgement_text p =
    if is_some p.failure then codes "<text x=\"12\" y=\"56\" class=\"badt b\">" ++ (escaped p.verdict ++ codes "</text>\n")
    else codes "<text x=\"12\" y=\"56\" class=\"tx b\">" ++ (escaped p.verdict ++ codes "</text>\n")

-- the title, the facts, and what an observer says
unfoldable pub plot_heading : Plot → List ℕ
plot_heading p =
    (codes "<text x=\"12\" y=\"24\" class=\"tx b\">" ++ (escaped p.title ++ codes "</text>\n"))
    ++ ((codes "<text x=\"12\" y=\"40\" class=\"ts\">" ++ (escaped p.facts ++ codes "</text>\n")) ++ judgement_text p)

-- what the lines mean
unfoldable pub lines_legend : (run : Bool) → (y : ℕ) → List ℕ
lines_legend run y =
    if run then filled_template (codes "<g transform=\"translate(12 %)\"><path d=\"M4 -1h8v-6h12\" class=\"ln\"/><text x=\"30\" class=\"ts s\">the run</text><path d=\"M95 -1h8v-6h12\" class=\"lp\"/><text x=\"121\" class=\"ts s\">the rest of the stream</text><path d=\"M303 -11v14\" class=\"fr\"/><path d=\"M303 -4l-5 -4v8z\" class=\"ex\"/><text x=\"317\" class=\"ts s\">the run's end</text></g>\n") (y ∷ [])
    else filled_template (codes "<g transform=\"translate(12 %)\"><path d=\"M4 -1h8v-6h12\" class=\"ln\"/><text x=\"30\" class=\"ts s\">the stream</text></g>\n") (y ∷ [])

-- and the dots
unfoldable pub dots_legend : (run dots : Bool) → (y : ℕ) → List ℕ
dots_legend run dots y =
    if dots then filled_template (codes "<g transform=\"translate(% %)\"><circle cx=\"16\" cy=\"-4\" r=\"1.5\" class=\"dot\"/><text x=\"30\" class=\"ts s\">absent</text></g>\n") ((if run then 432 else 124) ∷ y ∷ []) else []

-- the legend, below the axis
unfoldable pub plot_legend : (run dots : Bool) → (bottom : ℕ) → List ℕ
plot_legend run dots bottom = lines_legend run (bottom + 42) ++ dots_legend run dots (bottom + 42)
