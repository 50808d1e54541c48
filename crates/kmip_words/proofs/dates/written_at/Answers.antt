use Rattle.std.proofs.Common.{ℕ, zero, suc, ◌<◌, List, [], ◌∷◌, lit<, arith}
use Rattle.std.specs.List.{slice_index}
use Rattle.kmip_words.proofs.dates.written_at.Goals as goal

-- each byte is one of ASCII
abbrev AllSmall : List ℕ → Type 0
AllSmall [] = Unit {0}
AllSmall (a ∷ s) = (a < 128) × (AllSmall s)

small_at : (s : List ℕ) → AllSmall s → (i : ℕ) → slice_index s i < 128
small_at [] h zero = lit< tt
small_at [] h (suc i) = lit< tt
small_at (a ∷ s) h zero = h.0
small_at (a ∷ s) h (suc i) = small_at s h.1 i

below : (n : ℕ) → n < 58 → n < 128
below n lt = omega arith

pub returns-clause-ascii : goal.returns-clause-ascii
returns-clause-ascii c =
    let text : List ℕ =
    c.digit_at.result ∷ c.digit_at-2.result ∷ c.digit_at-3.result ∷ c.digit_at-4.result ∷ 45 ∷ c.digit_at-5.result ∷ c.digit_at-6.result ∷
    45 ∷ c.digit_at-7.result ∷ c.digit_at-8.result ∷ 84 ∷ c.digit_at-9.result ∷ c.digit_at-10.result ∷ 58 ∷ c.digit_at-11.result ∷
    c.digit_at-12.result ∷ 58 ∷ c.digit_at-13.result ∷ c.digit_at-14.result ∷ 43 ∷ 48 ∷ 48 ∷ 58 ∷ 48 ∷ 48 ∷ [] in
    small_at text ((
      below c.digit_at.result c.digit_at.ensures.digit,
      (
        below c.digit_at-2.result c.digit_at-2.ensures.digit,
        (
          below c.digit_at-3.result c.digit_at-3.ensures.digit,
          (
            below c.digit_at-4.result c.digit_at-4.ensures.digit,
            (
              lit< tt,
              (
                below c.digit_at-5.result c.digit_at-5.ensures.digit,
                (
                  below c.digit_at-6.result c.digit_at-6.ensures.digit,
                  (
                    lit< tt,
                    (
                      below c.digit_at-7.result c.digit_at-7.ensures.digit,
                      (
                        below c.digit_at-8.result c.digit_at-8.ensures.digit,
                        (
                          lit< tt,
                          (
                            below c.digit_at-9.result c.digit_at-9.ensures.digit,
                            (
                              below c.digit_at-10.result c.digit_at-10.ensures.digit,
                              (
                                lit< tt,
                                (
                                  below c.digit_at-11.result c.digit_at-11.ensures.digit,
                                  (
                                    below c.digit_at-12.result c.digit_at-12.ensures.digit,
                                    (
                                      lit< tt,
                                      (
                                        below c.digit_at-13.result c.digit_at-13.ensures.digit,
                                        (
                                          below c.digit_at-14.result c.digit_at-14.ensures.digit,
                                          (
                                            lit< tt,
                                            (
                                              lit< tt,
                                              (lit< tt, (lit< tt, (lit< tt, (lit< tt, tt)))),
                                            ),
                                          ),
                                        ),
                                      ),
                                    ),
                                  ),
                                ),
                              ),
                            ),
                          ),
                        ),
                      ),
                    ),
                  ),
                ),
              ),
            ),
          ),
        ),
      ),
    ))
