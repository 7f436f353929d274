-- A channel's place, and the messages behind it.
use Rattle.std.proofs.Common.{◌≡◌, Bool, true, false, List, ◌∷◌, length, map, refl, ◌∙◌, ap, subst, All}
use Rattle.std.proofs.lemmas.List.{length-map}
use Rattle.std.proofs.lemmas.List.Elements.{All-head, All-tail}
use Rattle.lt_base.specs.declared.value.Ty.{Ty}
use Rattle.lt_base.specs.declared.value.Value.{Value}
use Rattle.lt_base.specs.Value.{ty_of}
use Rattle.lt_io.specs.declared.message.Message.{Message}
use Rattle.lt_io.specs.ChannelState.{IsOfKind, IsKeptChannel}

-- values of these types are as many
pub as_many : (values : List Value) (kind : List Ty) → map ty_of values ≡ kind → length values ≡ length kind
as_many values kind typed = simp length-map at (ap length typed)

-- the next message moves into the place
pub kept_next : (kind : List Ty) (taken : Bool) (first next moved : Message) (behind rest : List Message)
    → IsKeptChannel kind taken first behind → behind ≡ next ∷ rest → moved ≡ next → IsKeptChannel kind taken moved rest
kept_next kind false first next moved behind rest kept is same = let none = kept.none_behind refl in absurd cc
kept_next kind true first next moved behind rest kept is same =
    let all = subst (λ ms. All (IsOfKind kind) ms) is kept.all_typed in
    let typed : IsOfKind kind moved = ap (λ (m : Message). map ty_of m.payload) same ∙ All-head (IsOfKind kind) next rest all in
    record {
      room = as_many moved.payload kind typed;
      typed = λ _. typed;
      all_typed = All-tail (IsOfKind kind) next rest all;
      none_behind = λ none. cc;
    }
