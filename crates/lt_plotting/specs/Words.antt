-- What a plot says above its rows.
use Rattle.std.specs.Prelude.{ℕ, ◌+◌, ◌-◌, min, max, nat_lt, List, [], ◌++◌, fold, codes, Option, Some, None, option_map, if◌then◌else◌}
use Rattle.std.specs.Fmt.{decimal}
use Rattle.std.specs.Borrow.{Bor}
use Rattle.lt_svg.specs.Paths.{base_name}
use Rattle.lt_watch.specs.declared.watched.Watched.{Watched}
use Rattle.lt_watch.specs.declared.watched.Watched.TheVariants.{Holds, Fails}
use Rattle.lt_plotting.specs.declared.course.Course.{Course}
use Rattle.lt_plotting.specs.declared.view.PlotWindow.{PlotWindow}

-- two words that need not be there
abbrev pub given_words : Option (Bor (List ℕ) × Bor (List ℕ)) → Option (List ℕ × List ℕ)
given_words words = option_map (λ w. (w.0.now, w.1.now)) words

-- of what a run is
abbrev pub run_title : (schedule config : List ℕ) → List ℕ
run_title schedule config = (codes " along " ++ base_name schedule) ++ (codes " by " ++ base_name config)

abbrev pub along_title : Option (List ℕ × List ℕ) → List ℕ
along_title None = []
along_title (Some (schedule, config)) = run_title schedule config

-- what is drawn, by the names of its files
unfoldable pub plot_title : (program inputs : List ℕ) (along : Option (List ℕ × List ℕ)) → List ℕ
plot_title program inputs along = (codes "outputs of " ++ base_name program) ++ ((codes " on " ++ base_name inputs) ++ along_title along)

-- the greatest of some lengths, and 0 where there is none; and the least
abbrev pub most_length : List ℕ → ℕ
most_length lengths = fold (λ most length. max most length) 0 lengths

abbrev pub least_length : List ℕ → ℕ
least_length lengths = fold (λ least length. min least length) (most_length lengths) lengths

-- the least and the greatest length, or the only one
abbrev pub lengths_text : (least most : ℕ) → List ℕ
lengths_text least most =
    if nat_lt least most then (codes ", the run has " ++ decimal least) ++ (codes " to " ++ decimal most) else codes ", the run has " ++ decimal most

-- how far a run came
abbrev pub run_facts : Course → List ℕ
run_facts course = if course.run then lengths_text (least_length course.lengths) (most_length course.lengths) else []

-- which instants are shown, and of how many
abbrev pub window_facts : PlotWindow → (total : ℕ) → List ℕ
window_facts window total = (codes "instants " ++ decimal window.first) ++ ((codes " to " ++ decimal (window.first + window.count - 1)) ++ (codes " of " ++ decimal total))

-- both
unfoldable pub plot_facts : PlotWindow → (total : ℕ) → Course → List ℕ
plot_facts window total course = window_facts window total ++ run_facts course

-- what an observer makes of the cells, as `watch` prints it, without the line feed
abbrev pub watched_line : Watched → List ℕ
watched_line (Holds n) = codes "holds " ++ decimal n
watched_line (Fails i) = codes "fails at " ++ decimal i

-- and nothing where none watches
abbrev pub told_line : Option Watched → List ℕ
told_line None = []
told_line (Some told) = watched_line told
