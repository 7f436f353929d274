-- The files of the large input.
use Rattle.std.specs.Prelude.{ℕ, zero, suc, ◌+◌, ◌*◌, List, [], ◌∷◌, ◌++◌, codes}
use Rattle.std.specs.Fmt.{decimal}

-- a line with its line feed
abbrev pub with_line_feed : List ℕ → List ℕ
with_line_feed text = text ++ 10 ∷ []

-- one function: the first output adds the input to what the last one was, and each other one adds 1 to what the one before
-- it was
abbrev pub program_text : List ℕ
program_text =
    with_line_feed (codes "node main(x: int) returns (y0, y1, y2, y3, y4, y5, y6, y7: int)")
    ++ (with_line_feed (codes "let")
    ++ (with_line_feed (codes "  y0 = x + (0 fby y7);")
    ++ (with_line_feed (codes "  y1 = 1 + (0 fby y0);")
    ++ (with_line_feed (codes "  y2 = 1 + (0 fby y1);")
    ++ (with_line_feed (codes "  y3 = 1 + (0 fby y2);")
    ++ (with_line_feed (codes "  y4 = 1 + (0 fby y3);")
    ++ (with_line_feed (codes "  y5 = 1 + (0 fby y4);")
    ++ (with_line_feed (codes "  y6 = 1 + (0 fby y5);")
    ++ (with_line_feed (codes "  y7 = 1 + (0 fby y6);")
    ++ with_line_feed (codes "tel"))))))))))

-- each output is on a node of its own, and the input is on that of the first
abbrev pub setup_text : List ℕ
setup_text =
    with_line_feed (codes "protocol = 'backpressure'")
    ++ (with_line_feed (codes "period = [9, 11]")
    ++ (with_line_feed (codes "delay = [1, 4]")
    ++ (with_line_feed (codes "[nodes]")
    ++ (with_line_feed (codes "n0 = ['x', 'y0']")
    ++ (with_line_feed (codes "n1 = ['y1']")
    ++ (with_line_feed (codes "n2 = ['y2']")
    ++ (with_line_feed (codes "n3 = ['y3']")
    ++ (with_line_feed (codes "n4 = ['y4']")
    ++ (with_line_feed (codes "n5 = ['y5']")
    ++ (with_line_feed (codes "n6 = ['y6']")
    ++ with_line_feed (codes "n7 = ['y7']")))))))))))

-- the row of an instant, at which the input is the instant's number
abbrev pub row_text : (instant : ℕ) → List ℕ
row_text instant = decimal instant ++ 44 ∷ (decimal instant ++ 10 ∷ [])

-- the header and the rows of so many instants
unfoldable pub inputs_text : (instants : ℕ) → List ℕ
inputs_text zero = with_line_feed (codes "instant,x")
inputs_text (suc instant) = inputs_text instant ++ row_text instant

-- up to here every node executes that many instants at least
abbrev pub horizon_of : (instants : ℕ) → ℕ
horizon_of instants = 30 * instants + 11
