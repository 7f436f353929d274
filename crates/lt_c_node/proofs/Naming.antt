-- Names of a file, read back.
use Rattle.std.proofs.Common.{◌≡◌, ℕ, Bool, List, drop, get_or, refl, sym, ap, ◌∙◌}
use Rattle.std.proofs.lemmas.List.{append_cancel_left}
use Rattle.std.specs.Prelude.{nat_eq, if◌then◌else◌}
use Rattle.lt_c_node.specs.Names.{External, of_init, of_activate, of_deed, of_nothing, of_execute, of_send, of_inputs, of_outputs, of_answer, of_deliver, of_acknowledge, of_message, of_got, of_sent, external_ending, FileNamesDiffer}

-- a byte of a name
is_byte : List ℕ → (place byte : ℕ) → Bool
is_byte l i b = nat_eq (get_or l i 0) b

-- what has this ending
read_i : List ℕ → External
read_i l = if◌then◌else◌ {A = External} (is_byte l 3 105) of_init of_inputs

read_a : List ℕ → External
read_a l = if◌then◌else◌ {A = External} (is_byte l 3 116) of_activate (if◌then◌else◌ {A = External} (is_byte l 12 95) (of_acknowledge (drop 13 l)) of_answer)

read_did : List ℕ → External
read_did l = if◌then◌else◌ {A = External} (is_byte l 5 110) of_nothing (if◌then◌else◌ {A = External} (is_byte l 5 101) of_execute of_send)

read_d : List ℕ → External
read_d l = if◌then◌else◌ {A = External} (is_byte l 2 105) (read_did l) (if◌then◌else◌ {A = External} (is_byte l 3 101) of_deed (of_deliver (drop 9 l)))

read_other : List ℕ → External
read_other l =
    if◌then◌else◌ {A = External} (is_byte l 1 109) (of_message (drop 9 l))
    (if◌then◌else◌ {A = External} (is_byte l 1 102) (of_got (drop 6 l))
    (if◌then◌else◌ {A = External} (is_byte l 1 116) (of_sent (drop 4 l)) of_outputs))

read_back : List ℕ → External
read_back l =
    if◌then◌else◌ {A = External} (is_byte l 1 105) (read_i l)
    (if◌then◌else◌ {A = External} (is_byte l 1 97) (read_a l)
    (if◌then◌else◌ {A = External} (is_byte l 1 100) (read_d l) (read_other l)))

reads_back : (e : External) → read_back (external_ending e) ≡ e
unfolding read_back read_i read_a read_did read_d read_other is_byte
reads_back of_init = refl
reads_back of_activate = refl
reads_back of_deed = refl
reads_back of_nothing = refl
reads_back of_execute = refl
reads_back of_send = refl
reads_back of_inputs = refl
reads_back of_outputs = refl
reads_back of_answer = refl
reads_back (of_deliver n) = refl
reads_back (of_acknowledge n) = refl
reads_back (of_message n) = refl
reads_back (of_got n) = refl
reads_back (of_sent n) = refl

pub names_differ : FileNamesDiffer
names_differ t a b h = sym (reads_back a) ∙ ap read_back (append_cancel_left t (external_ending a) (external_ending b) h) ∙ reads_back b
