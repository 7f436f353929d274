-- The types of a file's variables are those of its declarations.
use Rattle.std.proofs.Common.{◌≡◌, ℕ, zero, suc, ◌<◌, Bool, true, List, [], ◌∷◌, length, map, filter, Some, refl, sym, ap, ◌∙◌, subst, arith}
use Rattle.std.specs.Prelude.{◌||◌, nat_eq}
use Rattle.std.specs.List.{AllByRecursion, list_any, slice_get}
use Rattle.std.proofs.lemmas.List.Elements.{All-get_or}
use Rattle.std.proofs.lemmas.Option.{slice_get_within, get_or_from_slice_get}
use Rattle.lt_base.specs.declared.function.Decl.{Decl}
use Rattle.lt_base.specs.declared.value.Ty.TheVariants.{Int as IntTy}
use Rattle.lt_base.specs.Value.{ty_of}
use Rattle.lt_base.specs.Typing.{ty_at}
use Rattle.lt_place.specs.declared.layout.Part.{Part}
use Rattle.lt_place.specs.Layout.{part_of}
use Rattle.lt_net_bench.proofs.Entries.{same_number}
use Rattle.lt_c_step.specs.declared.sources.Output.{Output}
use Rattle.lt_c_heads.specs.declared.file.Carried.{Carried}
use Rattle.lt_c_heads.specs.declared.file.Peer.{Peer}
use Rattle.lt_c_heads.specs.Words.{type_word, type_word_at}
use Rattle.lt_c_bodies.specs.Acts.{peer_numbers}
use Rattle.lt_c_node.specs.NodeOf.{output_for, is_output, values_between}
use Rattle.lt_c_files.specs.DeclaredTypes.{type_or, delay_type, slot_type_of, value_type, declared_types, FilesDeclareTypes}
use Rattle.lt_c_files.proofs.Picked.{or_right}
use Rattle.lt_c_files.proofs.TypedFiles.{slots_typed, values_there}

type_at : (ds : List Decl) (x : ℕ) (d : Decl) → slice_get ds x ≡ Some d → ty_at ds x ≡ Some d.ty
type_at [] x d h = absurd (cc)
type_at (e ∷ ds) zero d h = ap (λ t. Some t) (same_ty e d h)
  where
    same_ty : (a b : Decl) → Some a ≡ Some b → a.ty ≡ b.ty
    same_ty a b e = cc
type_at (e ∷ ds) (suc x) d h = type_at ds x d h

value_at : (vs : List Carried) (k : ℕ) (v : Carried) → slice_get vs k ≡ Some v → value_type vs k ≡ ty_of v.first
value_at [] k v h = absurd (cc)
value_at (w ∷ vs) zero v h = ap ty_of (same_first w v h)
  where
    same_first : (a b : Carried) → Some a ≡ Some b → a.first ≡ b.first
    same_first a b e = cc
value_at (w ∷ vs) (suc k) v h = value_at vs k v h

among : (ps : List Peer) (i : ℕ) (p : Peer) → slice_get ps i ≡ Some p → list_any (nat_eq p.number) (peer_numbers ps) ≡ true
among [] i p h = absurd (cc)
among (q ∷ ps) zero p h = ap (λ (b : Bool). b || list_any (nat_eq p.number) (peer_numbers ps)) (ap (nat_eq p.number) (same_peer q p h) ∙ same_number p.number)
  where
    same_peer : (a b : Peer) → Some a ≡ Some b → a.number ≡ b.number
    same_peer a b e = cc
among (q ∷ ps) (suc i) p h = or_right (nat_eq p.number q.number) (list_any (nat_eq p.number) (peer_numbers ps)) (among ps i p h)

word_at : (ds : List Decl) (x : ℕ) → x < length ds → type_word_at ds x ≡ type_word (type_or (ty_at ds x) IntTy)
word_at [] x lt = absurd (omega (arith, lt))
word_at (d ∷ ds) zero lt = refl
word_at (d ∷ ds) (suc x) lt = word_at ds x (omega (arith, lt))

numbered : (q : Part) (xs : List ℕ) → AllByRecursion (λ (o : Output). o.from_slot ≡ o.output_number) (map (output_for q) xs)
numbered q [] = tt
numbered q (x ∷ xs) = (refl, numbered q xs)

pub files_declare_types : FilesDeclareTypes
files_declare_types l s t pace n file is =
    let q : Part = part_of l n in
    let typed = slots_typed q.flat.func file.part.code is.part.code (declared_types file) (λ x. ap (λ ds. slot_type_of ds file.part.code.keeps x) is.part.decls) in
    record {
      variables = λ x d h. ap (λ o. type_or o (delay_type file.part.code.keeps x)) (type_at file.part.decls x d h);
      delays = typed.delays;
      got = λ i k p v at there.
          let w = slice_get_within file.links.senders i p at in
          let own : p.values ≡ values_between l p.number n =
          subst (λ (r : Peer). r.values ≡ values_between l r.number n) (get_or_from_slice_get file.links.senders i p p at) (All-get_or (λ (r : Peer). r.values ≡ values_between l r.number n) file.links.senders i p w is.links.senders.values) in
          ap (λ vs. value_type vs k) (values_there l n p.number file.links.senders (among file.links.senders i p at) is.links.senders.values ∙ sym own) ∙ value_at p.values k v there;
      inputs = word_at file.part.decls;
      outputs = word_at file.part.decls;
      same_numbers = subst (AllByRecursion (λ (o : Output). o.from_slot ≡ o.output_number)) (sym is.part.outputs) (numbered q (filter (is_output l q) q.flat.func.outs));
    }
