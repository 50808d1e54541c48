-- The loop of a printer: what is written and what is left to write are the whole text.
use Rattle.std.proofs.Common.{◌≡◌, ℕ, suc, ◌+◌, ◌-◌, ◌*◌, ◌<◌, ◌≤◌, ◌/◌, Bool, true, false, List, [], ◌∷◌, ◌++◌, length, None, refl, sym, ap, subst, ◌∙◌, arith}
use Rattle.std.proofs.Common.{append_assoc}
use Rattle.std.proofs.lemmas.List.{length-reverse}
use Rattle.kmip_ttlv_types.specs.declared.typ.TtlvType.{TtlvType, TheVariants.Structure}
use Rattle.kmip_ttlv_util.specs.declared.{item.Item.Item, walk.Walk.Walk}
use Rattle.kmip_ttlv_util.specs.Traces.{trace, Style, printed_text}
use Rattle.kmip_ttlv_util.specs.WalkPlaces.{Place, start, left_at, has_end, opened, after}
use Rattle.kmip_ttlv_util.specs.Entries.{entry_at, type_read, extent}
use Rattle.kmip_ttlv_util.specs.Walks.{IsItem, Ready, Closed, Passed, place_of}
use Rattle.kmip_ttlv_util.proofs.{Saying.Begins, Entries.extent_least, Stack.deeper}
use Rattle.kmip_ttlv_util.proofs.Rest.{place, text_from, count_from, text_start, count_start, turn_reads, turn_unreadable, turn_closes, turn_over, turn_past}

-- what is written and what is left to write are the whole text; likewise for the count
pub record Walking (style : Style) (closed : Bool) (bytes out : List ℕ) (count : ℕ) (s : Place) : Type 0 where
  pub text : out ++ text_from style closed bytes (suc (length bytes) - count) s ≡ printed_text style closed (length bytes) (trace closed bytes)
  pub counts : count + count_from style closed bytes (suc (length bytes) - count) s ≡ length (trace closed bytes)
  pub eighths : 8 * count ≤ s.pos
  pub within : s.pos ≤ length bytes
  pub depth : s.endless + length s.ends ≤ count

-- the result
pub record Written (style : Style) (closed : Bool) (bytes out : List ℕ) (count : ℕ) : Type 0 where
  pub text : out ≡ printed_text style closed (length bytes) (trace closed bytes)
  pub counts : count ≡ length (trace closed bytes)
  pub bounded : count ≤ length bytes / 8 + 1

-- opening a structure moves on past its header
opened_pos : (b : Bool) (p n : ℕ) (es : List ℕ) (k : ℕ) (z : Bool) → (opened b p n es k z).pos ≡ p
opened_pos true p n es k z = refl
opened_pos false p n [] k z = refl
opened_pos false p n (e ∷ es) k z = refl

-- a step moves on past the entry
after_pos : (closed : Bool) (s : Place) (t : TtlvType) (n : ℕ) → (after closed s t n).pos ≡ s.pos + extent t n
unfolding after
after_pos closed s Structure n = opened_pos (has_end closed n) (s.pos + 8) n (left_at s.pos s.ends) s.endless s.loose
after_pos closed s typ n = refl

-- the measure decreases
pub smaller : {A : Type 0} {bytes : List ℕ} {i : Item} (closed : Bool) (a b c : Walk A) → place_of b ≡ place_of a → IsItem bytes b.pos i
    → place_of c ≡ after closed (place_of b) i.typ i.length → length c.ends.items ≤ length b.ends.items + 1
    → 2 * (length bytes - c.pos) + length c.ends.items < 2 * (length bytes - a.pos) + length a.ends.items
smaller {i = i} closed a b c same item goes le =
    let at : c.pos ≡ i.next = ap (λ (v : Place). v.pos) goes ∙ after_pos closed (place_of b) i.typ i.length ∙ sym item.next in
    let pos : b.pos ≡ a.pos = ap (λ (v : Place). v.pos) same in
    let lens : length b.ends.items ≡ length a.ends.items = sym (length-reverse b.ends.items) ∙ ap (λ (v : Place). length v.ends) same
    ∙ length-reverse a.ends.items in
    let more : b.pos + 8 ≤ i.next = omega (arith, item.next, extent_least i.typ i.length) in
    let within = item.within in
    omega arith

pub walking_start : {style : Style} {closed : Bool} {bytes : List ℕ} → Walking style closed bytes [] 0 start
walking_start {style} {closed} {bytes} =
    let all : suc (length bytes) - 0 ≡ suc (length bytes) = omega arith in
    record {
      text = ap (λ (n : ℕ). text_from style closed bytes n start) all ∙ text_start style closed bytes;
      counts = ap (λ (n : ℕ). 0 + count_from style closed bytes n start) all ∙ count_start style closed bytes;
      eighths = omega arith;
      within = omega arith;
      depth = omega arith;
    }

module _ {style : Style} {closed : Bool} {bytes out : List ℕ} {count : ℕ} {s : Place} (w : Walking style closed bytes out count s) where
  -- what was written is a beginning of the text
  pub walking_front : Begins out (printed_text style closed (length bytes) (trace closed bytes))
  walking_front = record { more = _; is = sym w.text }

  module _ {u : Place} (h : (u ≡ s) × Ready s) where
    -- the same place
    pub walking_here : Walking style closed bytes out count u
    walking_here = subst (Walking style closed bytes out count) (sym h.0) w

    here_ready : Ready u
    here_ready = subst Ready (sym h.0) h.1

    -- a turn is left while bytes are left
    fuel_is : suc (length bytes) - count ≡ suc (suc (length bytes) - (count + 1))
    fuel_is = omega (arith, w.eighths, w.within)

    -- an entry is read
    pub walking_reads : {piece : List ℕ} {i : Item} {t : Place} → IsItem bytes u.pos i
        → piece ≡ style.item (u.endless + length u.ends) u.pos (entry_at bytes u.pos) i.typ → t ≡ after closed u i.typ i.length
        → Walking style closed bytes (out ++ piece) (count + 1) t
    walking_reads {piece} {i} {t} item writes goes =
        let at : t.pos ≡ i.next = ap (λ (v : Place). v.pos) goes ∙ after_pos closed u i.typ i.length ∙ sym item.next in
        let f = suc (length bytes) - (count + 1) in
        let reads = turn_reads style closed bytes f u i.typ here_ready item.typ in
        record {
          text = rw (fuel_is, reads.0, ← item.len, ← goes, ← writes, ← append_assoc) at walking_here.text;
          counts = omega (arith, rw (fuel_is, reads.1, ← item.len, ← goes) at walking_here.counts);
          eighths = omega (arith, walking_here.eighths, item.next, extent_least i.typ i.length, at);
          within = omega (arith, item.within, at);
          depth = subst (λ (v : Place). v.endless + length v.ends ≤ count + 1) (sym goes)
              (omega (arith, walking_here.depth, deeper closed u i.typ i.length here_ready));
        }

    -- an entry can't be read
    pub walking_unreadable : type_read (length bytes) u.pos (entry_at bytes u.pos) ≡ None → Written style closed bytes (out ++ style.unreadable) (count + 1)
    walking_unreadable none =
        let f = suc (length bytes) - (count + 1) in
        record {
          text = rw (fuel_is, (turn_unreadable style closed bytes f u here_ready none).0) at walking_here.text;
          counts = omega (arith, rw (fuel_is, (turn_unreadable style closed bytes f u here_ready none).1) at walking_here.counts);
          bounded = omega (arith, w.eighths, w.within);
        }

  -- a structure closes
  pub walking_closes : {t : Place} → Closed s t → Walking style closed bytes (out ++ style.close) count t
  walking_closes {t} k =
      let f = suc (length bytes) - count in
      let here : s ≡ place s.pos (s.pos ∷ k.next ∷ k.others) s.endless s.loose = ap (λ (l : List ℕ). place s.pos l s.endless s.loose) k.ends in
      record {
        text = rw (here, (turn_closes style closed bytes f s.pos k.next k.others s.endless s.loose).0, ← k.is, ← append_assoc) at w.text;
        counts = rw (here, (turn_closes style closed bytes f s.pos k.next k.others s.endless s.loose).1, ← k.is) at w.counts;
        eighths = omega (arith, w.eighths, ap (λ (u : Place). u.pos) k.is);
        within = omega (arith, w.within, ap (λ (u : Place). u.pos) k.is);
        depth = subst (λ (u : Place). u.endless + length u.ends ≤ count) (sym k.is) (omega (arith, w.depth, ap length k.ends));
      }

  -- the last structure closes
  pub walking_over : s.ends ≡ s.pos ∷ [] → Written style closed bytes (out ++ style.close) count
  walking_over k =
      let f = suc (length bytes) - count in
      let here : s ≡ place s.pos (s.pos ∷ []) s.endless s.loose = ap (λ (l : List ℕ). place s.pos l s.endless s.loose) k in
      record {
        text = rw (here, (turn_over style closed bytes f s.pos s.endless s.loose).0) at w.text;
        counts = omega (arith, rw (here, (turn_over style closed bytes f s.pos s.endless s.loose).1) at w.counts);
        bounded = omega (arith, w.eighths, w.within);
      }

  -- an end was passed
  pub walking_past : Passed s → Written style closed bytes (out ++ style.passed) count
  walking_past k =
      let f = suc (length bytes) - count in
      let here : s ≡ place s.pos (k.next ∷ k.others) s.endless false = ap (λ (l : List ℕ). place s.pos l s.endless s.loose) k.ends
      ∙ ap (λ (z : Bool). place s.pos (k.next ∷ k.others) s.endless z) k.strict in
      record {
        text = rw (here, (turn_past style closed bytes f s.pos k.next k.others s.endless k.passed).0) at w.text;
        counts = omega (arith, rw (here, (turn_past style closed bytes f s.pos k.next k.others s.endless k.passed).1) at w.counts);
        bounded = omega (arith, w.eighths, w.within);
      }
