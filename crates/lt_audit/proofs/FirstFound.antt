-- The first miss of a list of events with one more at the end.
use Rattle.std.proofs.Common.{◌≡◌, ◌≢◌, ◌∙◌, ℕ, ◌+◌, ◌<◌, ◌==◌, ◌&&◌, not, Bool, true, false, List, [], ◌∷◌, ◌++◌, length, Option, Some, None, refl, sym, ap, subst, inl, inr, eq-eqb, ne_eqb}
use Rattle.std.proofs.lemmas.Bool.{cases_lt, false≢true}
use Rattle.std.proofs.lemmas.List.{append_assoc}
use Rattle.lt_arch.specs.declared.event.Deed.{Deed}
use Rattle.lt_arch.specs.declared.event.Deed.TheVariants.{Nothing, Execute, Send}
use Rattle.lt_arch.specs.declared.event.Event.{Event}
use Rattle.lt_arch.specs.declared.event.Event.TheVariants.{Act}
use Rattle.lt_arch.specs.declared.timing.Timing.{Timing}
use Rattle.lt_arch.specs.declared.shape.Shape.{Shape}
use Rattle.lt_arch.specs.State.{State, ChanState, executed_of}
use Rattle.lt_arch.specs.Readers.{node_count, chan_count, chan_of}
use Rattle.lt_arch.specs.Deeds.{deed_at, data_to}
use Rattle.lt_arch.specs.Schedule.{reached}
use Rattle.lt_audit.specs.declared.miss.Miss.{Miss}
use Rattle.lt_audit.specs.Misses.{IsOff, Misses, HasNoMiss, IsFirstMiss, FirstMiss}
use Rattle.lt_audit.specs.Audit.{AuditState, member_at, chan_at}
use Rattle.lt_audit.specs.Acts.{audited_chan, is_data_to, is_off, IsMissOf, NotesFirst}
use Rattle.lt_audit.specs.Standing.{HasState}
use Rattle.lt_audit.proofs.Longer.{where_last}

module _ (s : Shape) (t : Timing) (rows : ℕ) (es : List Event) (e : Event) where
  pub found_still : (m : Miss) → IsFirstMiss s t rows es m → IsFirstMiss s t rows (es ++ e ∷ []) m
  found_still m first = record {
    front = first.front;
    event = first.event;
    later = first.later ++ e ∷ [];
    list_is = ap (λ (l : List Event). l ++ e ∷ []) first.list_is ∙ append_assoc first.front (first.event ∷ first.later) (e ∷ []);
    none_before = first.none_before;
    number_is = first.number_is;
    executes = first.executes;
    instant_is = first.instant_is;
    off = first.off;
    lowest = first.lowest;
    delivered_is = first.delivered_is;
  }

  pub none_still : HasNoMiss s t rows es → (Misses s rows (reached s t rows es) e → ⊥) → HasNoMiss s t rows (es ++ e ∷ [])
  none_still none not_now front d later is miss = elim (where_last es e front d later is) [
    | inl h ↦
        not_now (subst (λ (x : Event). Misses s rows (reached s t rows es) x) h.last_is (subst (λ (l : List Event). Misses s rows (reached s t rows l) d) h.front_is miss))
    | inr h ↦ none front d h.rest h.later_is miss
  ]

both_true : (a b : Bool) → (a && b) ≡ true → (a ≡ true) × (b ≡ true)
both_true true b is = (refl, is)
both_true false b is = absurd (false≢true is)

differ : (x y : ℕ) → not (x == y) ≡ true → x ≢ y
differ x y is same = false≢true (ap not (sym (eq-eqb x y same)) ∙ is)

module _ (a : AuditState) (t : Timing) (es : List Event) (h : HasState a a.shape t (reached a.shape t a.rows es)) (n : ℕ) (ln : n < node_count a.shape) where
  abbrev pub st : State
  st = reached a.shape t a.rows es

  abbrev pub ex : ℕ
  ex = (member_at a.members n).executed

  data_same : (c : ℕ) → is_data_to (audited_chan a.shape.channels c) n ≡ data_to a.shape n c
  unfolding chan_of
  data_same c = refl

  off_of : (c : ℕ) → c < chan_count a.shape → is_off a.shape.channels a.chans n ex c ≡ true → IsOff a.shape st n c
  off_of c lc is =
      let both = both_true (is_data_to (audited_chan a.shape.channels c) n) (not ((chan_at a.chans c).delivered == ex)) is in
      record {
        channel = lc;
        incoming = sym (data_same c) ∙ both.0;
        differs = λ same. differ (chan_at a.chans c).delivered ex both.1 (ap (λ (k : ChanState). k.delivered) (h.chan c lc) ∙ same ∙ sym (h.executed n ln));
      }

  off_is : (c : ℕ) → IsOff a.shape st n c → is_off a.shape.channels a.chans n ex c ≡ true
  off_is c off =
      let other : (chan_at a.chans c).delivered ≢ ex = λ same. off.differs (ap (λ (k : ChanState). k.delivered) (sym (h.chan c off.channel)) ∙ same ∙ h.executed n ln) in
      λ i. (data_same c ∙ off.incoming) i && ap not (ne_eqb (chan_at a.chans c).delivered ex other) i

  not_off : (c : ℕ) → is_off a.shape.channels a.chans n ex c ≡ false → IsOff a.shape st n c → ⊥
  not_off c is off = false≢true (sym is ∙ off_is c off)

  module _ (at number : ℕ) (numbered : number ≡ length es + 1) where
    idle : (d : Deed) → d ≡ deed_at a.shape a.rows st n → (d ≡ Execute → ⊥) → Misses a.shape a.rows st (Act n at) → ⊥
    idle d is not_execute miss = not_execute (is ∙ miss.executes.1)

    no_execute : Nothing ≡ Execute → ⊥
    no_execute is = cc

    no_send : Send ≡ Execute → ⊥
    no_send is = cc

    all_on : ((c : ℕ) → c < chan_count a.shape → is_off a.shape.channels a.chans n ex c ≡ false) → Misses a.shape a.rows st (Act n at) → ⊥
    all_on on miss = not_off miss.channel (on miss.channel miss.off.channel) (subst (λ (m : ℕ). IsOff a.shape st m miss.channel) (sym miss.executes.0) miss.off)

    found_now : (m : Miss) → HasNoMiss a.shape t a.rows es → Execute ≡ deed_at a.shape a.rows st n → IsMissOf a.shape.channels a.chans n ex number m → IsFirstMiss a.shape t a.rows (es ++ Act n at ∷ []) m
    found_now m none is found = record {
      front = es;
      event = Act n at;
      later = [];
      list_is = refl;
      none_before = none;
      number_is = found.event ∙ numbered;
      executes = (sym found.node, sym is);
      instant_is = found.instant ∙ h.executed n ln ∙ ap (executed_of st) (sym found.node);
      off = subst (λ (k : ℕ). IsOff a.shape st k m.channel) (sym found.node) (off_of m.channel found.channel.0 found.channel.1);
      lowest = λ c off. elim (cases_lt c m.channel) [
        | inl lt ↦ absurd (not_off c (found.channel.2 c lt) (subst (λ (k : ℕ). IsOff a.shape st k c) found.node off))
        | inr le ↦ le
      ];
      delivered_is = found.delivered ∙ ap (λ (k : ChanState). k.delivered) (h.chan m.channel found.channel.0);
    }

    pub notes : (before after : Option Miss) (d : Deed) → d ≡ deed_at a.shape a.rows st n → NotesFirst a.shape.channels a.chans n ex number d before after → FirstMiss a.shape t a.rows es before →
        FirstMiss a.shape t a.rows (es ++ Act n at ∷ []) after
    notes (Some m) after d is noted first = subst (λ (o : Option Miss). FirstMiss a.shape t a.rows (es ++ Act n at ∷ []) o) (sym noted) (found_still a.shape t a.rows es (Act n at) m first)
    notes None after Nothing is noted first =
        subst (λ (o : Option Miss). FirstMiss a.shape t a.rows (es ++ Act n at ∷ []) o) (sym noted) (none_still a.shape t a.rows es (Act n at) first (idle Nothing is no_execute))
    notes None after Send is noted first =
        subst (λ (o : Option Miss). FirstMiss a.shape t a.rows (es ++ Act n at ∷ []) o) (sym noted) (none_still a.shape t a.rows es (Act n at) first (idle Send is no_send))
    notes None None Execute is noted first = none_still a.shape t a.rows es (Act n at) first (all_on noted)
    notes None (Some m) Execute is noted first = found_now m first is noted
