-- The messages in transit at places of a channel.
use Rattle.std.proofs.Common.{◌≡◌, ◌∙◌, ℕ, zero, suc, List, [], ◌∷◌, map, slice_index_or, Some, None, refl}
use Rattle.std.specs.Prelude.{slice_get}
use Rattle.lt_lossy.specs.State.{LinkState, Message}
use Rattle.lt_lossy_audit.specs.Links.{link_numbers, link_send_times}
use Rattle.lt_lossy_course.specs.LossySketches.{left_message}
use Rattle.lt_lossy_course.specs.LossyStrokes.{placed_message}

pub got_some : (xs : List ℕ) (place x none : ℕ) → Some x ≡ slice_get xs place → x ≡ slice_index_or xs place none
got_some [] zero x none is = cc
got_some [] (suc p) x none is = cc
got_some (y ∷ later) zero x none is = cc
got_some (y ∷ later) (suc p) x none is = got_some later p x none is

pub got_none : (xs : List ℕ) (place none : ℕ) → None ≡ slice_get xs place → none ≡ slice_index_or xs place none
got_none [] zero none is = refl
got_none [] (suc p) none is = refl
got_none (y ∷ later) zero none is = cc
got_none (y ∷ later) (suc p) none is = got_none later p none is

both_of : (ms : List Message) (place none : ℕ) → record { number = slice_index_or (map (λ (m : Message). m.number) ms) place 0; sent_at = slice_index_or (map (λ (m : Message). m.sent_at) ms) place none } ≡ placed_message none ms place
both_of [] zero none = refl
both_of [] (suc p) none = refl
both_of (m ∷ later) zero none = refl
both_of (m ∷ later) (suc p) none = both_of later p none

-- its number and its send time, which are read one after the other
pub both_read : (link : LinkState) (place none newest number sent : ℕ) → number ≡ slice_index_or (link_numbers link) place 0 → sent ≡ slice_index_or (link_send_times link) place none → left_message (record { newest = newest; number = number; sent = sent }) ≡ placed_message none link.transit place
both_read link place none newest number sent n s = (λ i. record { number = n i; sent_at = s i }) ∙ both_of link.transit place none
