-- The nodes with which a node exchanges messages, found channel by channel.
use Rattle.std.proofs.Common.{◌≡◌, ℕ, ◌+◌, ◌<◌, Bool, true, false, List, [], ◌∷◌, ◌++◌, length, take, map, get_or, sym, ap, ◌∙◌, add-one, append-nil, cond}
use Rattle.std.specs.List.{filter}
use Rattle.std.proofs.Math.Seq.{take-suc}
use Rattle.std.proofs.lemmas.List.{map-append}
use Rattle.std.proofs.lemmas.List.Elements.{filter-append, All-push}
use Rattle.lt_arch.specs.declared.chan.Chan.{Chan}
use Rattle.lt_place.specs.declared.layout.Layout.{Layout}
use Rattle.lt_c_heads.specs.declared.file.Peer.{Peer}
use Rattle.lt_c_bodies.specs.Acts.{peer_numbers}
use Rattle.lt_c_node.specs.NodeOf.{values_between, brings_data, takes_data, AreSenders, AreReceivers}

next_taken : {A : Type 0} (xs : List A) (i : ℕ) (x : A) → i < length xs → x ≡ get_or xs i x → take (i + 1) xs ≡ take i xs ++ x ∷ []
next_taken xs i x h is = ap (λ k. take k xs) (add-one i) ∙ take-suc xs i x h ∙ ap (λ z. take i xs ++ z ∷ []) (sym is)

-- the next channel is picked, or is not
picked : (p : Chan → Bool) (chs : List Chan) (i : ℕ) (ch : Chan) → i < length chs → ch ≡ get_or chs i ch → p ch ≡ true → filter p (take (i + 1) chs) ≡ filter p (take i chs) ++ ch ∷ []
picked p chs i ch h is picks =
    ap (filter p) (next_taken chs i ch h is) ∙ filter-append p (take i chs) (ch ∷ []) ∙ ap (λ (b : Bool). filter p (take i chs) ++ cond b (ch ∷ []) []) picks

passed : (p : Chan → Bool) (chs : List Chan) (i : ℕ) (ch : Chan) → i < length chs → ch ≡ get_or chs i ch → p ch ≡ false → filter p (take (i + 1) chs) ≡ filter p (take i chs)
passed p chs i ch h is no_one =
    ap (filter p) (next_taken chs i ch h is) ∙ filter-append p (take i chs) (ch ∷ []) ∙ ap (λ (b : Bool). filter p (take i chs) ++ cond b (ch ∷ []) []) no_one ∙ append-nil (filter p (take i chs))

-- one more number, that of the picked channel's end
numbered : (end : Chan → ℕ) (p : Chan → Bool) (chs : List Chan) (i : ℕ) (ch : Chan) (ps : List Peer) (q : Peer) → i < length chs → ch ≡ get_or chs i ch → p ch ≡ true → q.number ≡ end ch
    → peer_numbers ps ≡ map end (filter p (take i chs)) → peer_numbers (ps ++ q ∷ []) ≡ map end (filter p (take (i + 1) chs))
numbered end p chs i ch ps q h is picks number so_far =
    map-append (λ (x : Peer). x.number) ps (q ∷ []) ∙ (λ k. so_far k ++ number k ∷ [])
    ∙ sym (ap (map end) (picked p chs i ch h is picks) ∙ map-append end (filter p (take i chs)) (ch ∷ []))

pub sender_more : (l : Layout) (chs : List Chan) (n i : ℕ) (ch : Chan) (ps : List Peer) (q : Peer) → i < length chs → ch ≡ get_or chs i ch → brings_data n ch ≡ true → q.number ≡ ch.from → q.values ≡ values_between l ch.from n
    → AreSenders l (take i chs) n ps → AreSenders l (take (i + 1) chs) n (ps ++ q ∷ [])
sender_more l chs n i ch ps q h is picks number values so_far = record {
  numbers = numbered (λ (c : Chan). c.from) (brings_data n) chs i ch ps q h is picks number so_far.numbers;
  values = All-push (λ (p : Peer). p.values ≡ values_between l p.number n) ps q so_far.values (values ∙ ap (λ j. values_between l j n) (sym number));
}

pub sender_none : (l : Layout) (chs : List Chan) (n i : ℕ) (ch : Chan) (ps : List Peer) → i < length chs → ch ≡ get_or chs i ch → brings_data n ch ≡ false → AreSenders l (take i chs) n ps → AreSenders l (take (i + 1) chs) n ps
sender_none l chs n i ch ps h is no_one so_far = record {
  numbers = so_far.numbers ∙ sym (ap (map (λ (c : Chan). c.from)) (passed (brings_data n) chs i ch h is no_one));
  values = so_far.values;
}

pub receiver_more : (l : Layout) (chs : List Chan) (n i : ℕ) (ch : Chan) (ps : List Peer) (q : Peer) → i < length chs → ch ≡ get_or chs i ch → takes_data n ch ≡ true → q.number ≡ ch.to → q.values ≡ values_between l n ch.to
    → AreReceivers l (take i chs) n ps → AreReceivers l (take (i + 1) chs) n (ps ++ q ∷ [])
receiver_more l chs n i ch ps q h is picks number values so_far = record {
  numbers = numbered (λ (c : Chan). c.to) (takes_data n) chs i ch ps q h is picks number so_far.numbers;
  values = All-push (λ (p : Peer). p.values ≡ values_between l n p.number) ps q so_far.values (values ∙ ap (λ j. values_between l n j) (sym number));
}

pub receiver_none : (l : Layout) (chs : List Chan) (n i : ℕ) (ch : Chan) (ps : List Peer) → i < length chs → ch ≡ get_or chs i ch → takes_data n ch ≡ false → AreReceivers l (take i chs) n ps → AreReceivers l (take (i + 1) chs) n ps
receiver_none l chs n i ch ps h is no_one so_far = record {
  numbers = so_far.numbers ∙ sym (ap (map (λ (c : Chan). c.to)) (passed (takes_data n) chs i ch h is no_one));
  values = so_far.values;
}
