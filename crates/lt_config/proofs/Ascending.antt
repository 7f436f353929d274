-- The names of a table ascend, as its keys do.
use Rattle.std.proofs.Common.{◌≡◌, ℕ, List, [], ◌∷◌, Less, String, Global, nat_cmp, string_bytes}
use Rattle.std.specs.List.{AllByRecursion}
use Rattle.std.specs.List.Sorted.{IsStrictlySortedBy}
use Rattle.std.specs.Map.{keys_of}
use Rattle.std.specs.String.{string_cmp}
use Rattle.std.specs.Cmp.Lexicographic.{slice_cmp}
use Rattle.toml.specs.View.{members_view}
use Rattle.toml.specs.declared.value.Value.{Value}
use Rattle.lt_arch.specs.NodeNames.{names_of, byte_order}
use Rattle.lt_config.specs.Setup.{nodes_in}

all-below : (k : List ℕ) (es : List (String Global × Value)) → AllByRecursion (λ s. slice_cmp nat_cmp k (string_bytes s) ≡ Less) (keys_of es)
    → AllByRecursion (λ name. byte_order k name ≡ Less) (names_of (nodes_in (members_view es)))
all-below k [] h = tt
all-below k (e ∷ es) h = (h.0, all-below k es h.1)

pub ascending : (es : List (String Global × Value)) → IsStrictlySortedBy string_cmp (keys_of es) → IsStrictlySortedBy byte_order (names_of (nodes_in (members_view es)))
unfolding IsStrictlySortedBy
ascending [] h = tt
ascending (e ∷ es) h = (all-below (string_bytes e.0) es h.0, ascending es h.1)
