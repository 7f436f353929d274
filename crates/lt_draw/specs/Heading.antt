-- The lines above a picture, what stands before them, and how much room they take.
use Rattle.std.specs.Prelude.{ℕ, zero, suc, ◌+◌, ◌-◌, ◌*◌, ◌++◌, ◌||◌, ◌==◌, min, max, Bool, List, [], ◌∷◌, length, take, drop, Option, Some, None, is_some, codes, if◌then◌else◌}
use Rattle.lt_diagram.specs.declared.picture.Picture.{Picture}
use Rattle.lt_diagram.specs.declared.picture.Offence.{Offence}
use Rattle.lt_diagram.specs.declared.picture.Ring.{Ring}
use Rattle.lt_diagram.specs.declared.chart.Chart.{Chart}
use Rattle.lt_diagram.specs.Chart.{bounded_width, per_line, line_count, digit_count, widest, gutter, row_height, node_count_of}
use Rattle.lt_svg.specs.Pieces.{filled_template, escaped}

-- the red lines: the line of a refusal, or what is said of a message too few or too many
abbrev pub ring_line : Option Ring → List ℕ
ring_line None = []
ring_line (Some r) = r.line

abbrev pub red_line : Option Offence → Option Ring → List ℕ
red_line (Some o) r = o.refusal
red_line None r = ring_line r

abbrev pub warning : Picture → List ℕ
warning p = red_line p.offence p.ring

-- how many lines stand above the rows
unfoldable pub heading_lines : Picture → ℕ
heading_lines p = line_count (per_line p.width) p.title + line_count (per_line p.width) p.facts + line_count (per_line p.width) (warning p)

-- where the rows begin: below the lines, and lower where something red stands above them
abbrev pub rows_begin : Picture → ℕ
rows_begin p = 16 * heading_lines p + (if is_some p.offence || is_some p.ring then 38 else 26)

-- the chart of a picture
unfoldable pub chart_of : Picture → Chart
chart_of p =
    let digits = digit_count p.to in
    let left = gutter digits (widest p.names) in
    record {
      from = p.from;
      to = p.to;
      left = left;
      breadth = bounded_width p.width - left - (6 + 4 * digits);
      top = rows_begin p;
      row = row_height (node_count_of p.names);
      nodes = node_count_of p.names;
      room = max (7 * digits + 14) 48;
    }

-- a line of text, which begins with its class
unfoldable pub drawn_line : (y : ℕ) (class text : List ℕ) → List ℕ
drawn_line y class text = filled_template (codes "<text x=\"12\" y=\"%\" class=\"") (y ∷ []) ++ (class ++ (escaped text ++ codes "</text>\n"))

-- the next so many lines of a text
abbrev pub lines_below : (count per y : ℕ) (class text : List ℕ) → List ℕ
lines_below zero per y class text = []
lines_below (suc n) per y class text =
    if length text == 0 then [] else
    drawn_line y class (take (min (max per 1) (length text)) text) ++ lines_below n per (y + 16) class (drop (min (max per 1) (length text)) text)

-- a text in lines, from this line on
unfoldable pub drawn_lines : (per first : ℕ) (class text : List ℕ) → List ℕ
drawn_lines per first class text = lines_below 40 per (24 + 16 * first) class text

-- the opening tag of a picture of this size
unfoldable pub drawn_frame : (width height : ℕ) → List ℕ
drawn_frame width height =
    filled_template (codes "<svg xmlns=\"http://www.w3.org/2000/svg\" width=\"%\" height=\"%\" viewBox=\"0 0 % %\" role=\"img\" aria-labelledby=\"t d\">\n")
    (width ∷ height ∷ width ∷ height ∷ [])

-- the title that is read aloud: with the red lines, where there are any
unfoldable pub red_title : List ℕ → List ℕ
red_title text = if length text == 0 then [] else codes ": " ++ (escaped text ++ [])

unfoldable pub drawn_titles : (title red facts : List ℕ) → List ℕ
drawn_titles title red facts =
    (codes "<title id=\"t\">" ++ (escaped title ++ []))
    ++ (red_title red ++ (codes "</title>\n<desc id=\"d\">" ++ (escaped facts ++ codes "</desc>\n")))

-- the style, light and dark, and the heads of arrows
unfoldable pub style_text : List ℕ
style_text =
    codes "<style>text{font:11px 'DejaVu Sans Mono',Menlo,Consolas,'Liberation Mono',monospace}.b{font-weight:bold}.s{font-size:10px}.n{font-size:9px;font-weight:bold}.e{text-anchor:end}.m{text-anchor:middle}.gr{stroke-opacity:.3}.nl{stroke-width:1}.no{stroke-width:1.5}.se{stroke-width:1.6}.da,.em,.ac,.lo,.bad{fill:none}.da{stroke-width:1.5}.em{stroke-width:1}.ac{stroke-width:1.1;stroke-dasharray:4 3}.w{stroke-dasharray:1 3}.lo{stroke-width:1.8}.bad{stroke-width:2}.bd{stroke-dasharray:6 4}.badz{fill-opacity:.1}.v{stroke-width:1}.hl{paint-order:stroke;stroke-width:2.5;stroke-linejoin:round}.th{stroke-width:.8}\n"
    ++ (codes ".bg{fill:#ffffff}.i0{fill:#dcebfa}.i1{fill:#fdf0c8}.i2{fill:#dadbde}.gr{stroke:#8a939c}.nl{stroke:#6b747d}.tx{fill:#1c2126}.ts{fill:#59626b}.ex{fill:#12304a}.exn{fill:#ffffff}.no{stroke:#3d464f}.se{stroke:#12304a}.se{fill:#ffffff}.da{stroke:#0069ab}.dah{fill:#0069ab}.em{stroke:#6f9fc2}.emh{fill:#6f9fc2}.ac{stroke:#6f6857}.ach{fill:#6f6857}.lo{stroke:#1c2126}.bad{stroke:#c4170c}.badt{fill:#c4170c}.badz{fill:#c4170c}.hl{stroke:#ffffff}\n"
    ++ (codes "@media(prefers-color-scheme:dark){.bg{fill:#15191e}.i0{fill:#17344f}.i1{fill:#463810}.i2{fill:#3d4146}.gr{stroke:#8a939c}.nl{stroke:#96a0aa}.tx{fill:#e6eaee}.ts{fill:#a5afb9}.ex{fill:#dbe9f6}.exn{fill:#10202e}.no{stroke:#c3ccd4}.se{stroke:#dbe9f6}.se{fill:#15191e}.da{stroke:#5bb8f2}.dah{fill:#5bb8f2}.em{stroke:#5585a6}.emh{fill:#5585a6}.ac{stroke:#b9b3a4}.ach{fill:#b9b3a4}.lo{stroke:#e6eaee}.bad{stroke:#ff7a5c}.badt{fill:#ff7a5c}.badz{fill:#ff7a5c}.hl{stroke:#15191e}}</style>\n"
    ++ codes "<defs><marker id=\"hda\" viewBox=\"0 0 8 8\" refX=\"7\" refY=\"4\" markerWidth=\"9\" markerHeight=\"9\" markerUnits=\"userSpaceOnUse\" orient=\"auto\"><path d=\"M0 1L8 4L0 7z\" class=\"dah\"/></marker>\n<marker id=\"hem\" viewBox=\"0 0 8 8\" refX=\"7\" refY=\"4\" markerWidth=\"7\" markerHeight=\"7\" markerUnits=\"userSpaceOnUse\" orient=\"auto\"><path d=\"M0 1L8 4L0 7z\" class=\"emh\"/></marker>\n<marker id=\"hac\" viewBox=\"0 0 8 8\" refX=\"7\" refY=\"4\" markerWidth=\"8\" markerHeight=\"8\" markerUnits=\"userSpaceOnUse\" orient=\"auto\"><path d=\"M0 1L8 4L0 7z\" class=\"ach\"/></marker>\n<marker id=\"hbad\" viewBox=\"0 0 8 8\" refX=\"7\" refY=\"4\" markerWidth=\"11\" markerHeight=\"11\" markerUnits=\"userSpaceOnUse\" orient=\"auto\"><path d=\"M0 1L8 4L0 7z\" class=\"badt\"/></marker>\n</defs>\n"))

unfoldable pub drawn_opening : Picture → (height : ℕ) → List ℕ
drawn_opening p height = drawn_frame (bounded_width p.width) height ++ drawn_titles p.title (warning p) p.facts

-- the ground of a picture
unfoldable pub drawn_paper : Picture → (height : ℕ) → List ℕ
drawn_paper p height = filled_template (codes "<rect width=\"%\" height=\"%\" class=\"bg\"/>\n") (bounded_width p.width ∷ height ∷ [])

-- what stands before all that is drawn
unfoldable pub drawn_head : Picture → (height : ℕ) → List ℕ
drawn_head p height = drawn_opening p height ++ (style_text ++ drawn_paper p height)

-- the title, the facts, and in red what is refused
unfoldable pub title_lines : Picture → List ℕ
title_lines p = drawn_lines (per_line p.width) 0 (codes "tx b\">") p.title

unfoldable pub fact_lines : Picture → List ℕ
fact_lines p = drawn_lines (per_line p.width) (line_count (per_line p.width) p.title) (codes "ts\">") p.facts

unfoldable pub red_lines : Picture → List ℕ
red_lines p = drawn_lines (per_line p.width) (line_count (per_line p.width) p.title + line_count (per_line p.width) p.facts) (codes "badt b\">") (warning p)

unfoldable pub drawn_heading : Picture → List ℕ
drawn_heading p = title_lines p ++ (fact_lines p ++ red_lines p)
