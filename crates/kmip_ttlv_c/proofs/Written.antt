-- Items that are written into the caller's buffer.
use Rattle.std.proofs.Common.{◌≡◌, ◌⊎◌, inl, inr, ℕ, ◌<◌, ◌≤◌, List, ◌++◌, length, map, drop, None, refl, ap, ◌∙◌, arith}
use Rattle.kmip_ttlv_write.specs.FlatWrites.{FillsFront}
use Rattle.kmip_ttlv_c.specs.{declared.items.KmipTtlvItem.KmipTtlvItem, declared.writing.KmipTtlvBadItem.KmipTtlvBadItem, declared.status.TheConstants.OK}
use Rattle.kmip_ttlv_c.specs.{declared.status.TheConstants.NO_ROOM, Buffers.Offers}
use Rattle.kmip_ttlv_c.specs.LentWrites.{c_given, c_bad, AnswersWrite, writes}

module _ (items : List KmipTtlvItem) (lent : List ℕ) (len : ℕ) (old new : List ℕ) (h : FillsFront (map c_given items) lent len old new) (bad : KmipTtlvBadItem)
    (good : bad ≡ c_bad None) where
  -- there was room
  pub all_written : len ≤ length old → AnswersWrite items lent OK len bad old new
  all_written le = writes h.text h.written (by h.buffer) good
    where
      by : (((len ≤ length old) × (new ≡ h.text ++ drop len old)) ⊎ ((length old < len) × (new ≡ old))) → Offers h.text OK len old new
      by (inl k) = inl record {
        status_is = refl;
        length_is = h.length_is;
        fits = omega (arith, h.length_is, le);
        buffer = k.1 ∙ ap (λ (n : ℕ). h.text ++ drop n old) h.length_is;
      }
      by (inr k) = absurd (omega (arith, k.0, le))

  -- there was none
  pub none_written : length old < len → AnswersWrite items lent NO_ROOM len bad old new
  none_written lt = writes h.text h.written (by h.buffer) good
    where
      by : (((len ≤ length old) × (new ≡ h.text ++ drop len old)) ⊎ ((length old < len) × (new ≡ old))) → Offers h.text NO_ROOM len old new
      by (inl k) = absurd (omega (arith, k.0, lt))
      by (inr k) = inr record { status_is = refl; length_is = h.length_is; too_long = omega (arith, h.length_is, lt); buffer = k.1 }
