-- Texts that are added to one another.
use Rattle.std.proofs.Common.{◌≡◌, ◌∙◌, List, ℕ, [], ◌++◌, ap, append_assoc}

-- a part is another one
pub piece : (a b s t : List ℕ) → b ≡ a ++ s → s ≡ t → b ≡ a ++ t
piece a b s t h e = h ∙ ap (λ (x : List ℕ). a ++ x) e

pub three : (a b c d s t u : List ℕ) → b ≡ a ++ s → c ≡ b ++ t → d ≡ c ++ u → d ≡ a ++ (s ++ (t ++ u))
three a b c d s t u h1 h2 h3 = rw (h3, h2, h1) (simp append_assoc)

pub four : (a b c d e s t u v : List ℕ) → b ≡ a ++ s → c ≡ b ++ t → d ≡ c ++ u → e ≡ d ++ v → e ≡ a ++ (s ++ (t ++ (u ++ v)))
four a b c d e s t u v h1 h2 h3 h4 = rw (h4, h3, h2, h1) (simp append_assoc)

pub five :
    (a b c d e f s t u v w : List ℕ) → b ≡ a ++ s → c ≡ b ++ t → d ≡ c ++ u → e ≡ d ++ v → f ≡ e ++ w
    → f ≡ a ++ (s ++ (t ++ (u ++ (v ++ w))))
five a b c d e f s t u v w h1 h2 h3 h4 h5 = rw (h5, h4, h3, h2, h1) (simp append_assoc)

pub seven :
    (a b c d e f g h s t u v w x y : List ℕ)
    → b ≡ a ++ s → c ≡ b ++ t → d ≡ c ++ u → e ≡ d ++ v → f ≡ e ++ w → g ≡ f ++ x → h ≡ g ++ y
    → h ≡ a ++ (s ++ (t ++ (u ++ (v ++ (w ++ (x ++ y))))))
seven a b c d e f g h s t u v w x y h1 h2 h3 h4 h5 h6 h7 = rw (h7, h6, h5, h4, h3, h2, h1) (simp append_assoc)

-- to none
pub three_from : (a b c d s t u : List ℕ) → a ≡ [] → b ≡ a ++ s → c ≡ b ++ t → d ≡ c ++ u → d ≡ s ++ (t ++ u)
three_from a b c d s t u h0 h1 h2 h3 = rw (h3, h2, h1, h0) (simp append_assoc)

pub four_from :
    (a b c d e s t u v : List ℕ) → a ≡ [] → b ≡ a ++ s → c ≡ b ++ t → d ≡ c ++ u → e ≡ d ++ v → e ≡ s ++ (t ++ (u ++ v))
four_from a b c d e s t u v h0 h1 h2 h3 h4 = rw (h4, h3, h2, h1, h0) (simp append_assoc)

pub five_from :
    (a b c d e f s t u v w : List ℕ) → a ≡ [] → b ≡ a ++ s → c ≡ b ++ t → d ≡ c ++ u → e ≡ d ++ v → f ≡ e ++ w
    → f ≡ s ++ (t ++ (u ++ (v ++ w)))
five_from a b c d e f s t u v w h0 h1 h2 h3 h4 h5 = rw (h5, h4, h3, h2, h1, h0) (simp append_assoc)
