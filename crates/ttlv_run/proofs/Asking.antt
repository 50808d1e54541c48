-- What is done with inputs, by names and in a way that are known in other words.
use Rattle.std.specs.Borrow.{Bor}
use Rattle.std.proofs.Common.{◌≡◌, ◌∙◌, ℕ, Bool, List, Option, ap, subst}
use Rattle.kmip_ttlv_json.specs.Printings.{is_there}
use Rattle.ttlv_run.specs.declared.job.Asked.{Asked}
use Rattle.ttlv_run.specs.Files.{At, Opening}
use Rattle.ttlv_run.specs.Masks.{value_named, mask_names}
use Rattle.ttlv_run.specs.Texts.{Names}
use Rattle.ttlv_run.specs.Tags.{AreTags}
use Rattle.ttlv_run.specs.Tools.{InputsDone, LacksTag}

-- names by what tables give: of tags, and the tags of names, of a user's values, and of those of lists and of masks; and the secrets
abbrev pub Given : Type 0
Given = ℕ → Option (List ℕ)

abbrev pub names_by : Given → (List ℕ → Option ℕ) → Given → Given → Given → Given → Names
names_by tags named own values masks secrets = record {
  tags = tags;
  named = named;
  values = λ tag value. value_named own (values tag) tag value;
  masks = λ tag mask. mask_names (value_named own (masks tag) tag) mask;
  secrets = λ tag. is_there (secrets tag);
}

pub same_names : (t u : Given) (f g : List ℕ → Option ℕ) (o p v w m n s r : Given) → t ≡ u → f ≡ g → o ≡ p → v ≡ w → m ≡ n → s ≡ r
    → names_by t f o v m s ≡ names_by u g p w n r
same_names t u f g o p v w m n s r a h b c d e =
    ap (λ (x : Given). names_by x f o v m s) a ∙ ap (λ (x : List ℕ → Option ℕ). names_by u x o v m s) h ∙ ap (λ (x : Given). names_by u g x v m s) b
    ∙ ap (λ (x : Given). names_by u g p x m s) c ∙ ap (λ (x : Given). names_by u g p w x s) d ∙ ap (λ (x : Given). names_by u g p w n x) e

pub inputs_as : {O I : Type 0} (how : Opening O I) (n m : Names) (a b : Asked) (f g : List (Bor (List ℕ))) (old was new : At O)
    (can_fail : Bool) (l r : Option (List ℕ)) (status : ℕ)
    → n ≡ m → a ≡ b → f ≡ g → old ≡ was → InputsDone how n a f old new can_fail l r status → InputsDone how m b g was new can_fail l r status
inputs_as how n m a b f g old was new can_fail l r status p q o s h =
    subst (λ (x : At _). InputsDone how m b g x new can_fail l r status) s
    (subst (λ (x : List (Bor (List ℕ))). InputsDone how m b x old new can_fail l r status) o
    (subst (λ (x : Asked). InputsDone how m x f old new can_fail l r status) q
    (subst (λ (x : Names). InputsDone how x a f old new can_fail l r status) p h)))

-- the tags of words in a table that is known in other words, or why there are none
pub tags_as : {t u : List ℕ} {v w : List (Bor (List ℕ))} {x y : List ℕ} → t ≡ u → v ≡ w → x ≡ y → AreTags t v x → AreTags u w y
tags_as {u = u} {v = v} {w = w} {x = x} p q r h =
    subst (λ (z : List ℕ). AreTags u w z) r
    (subst (λ (z : List (Bor (List ℕ))). AreTags u z x) q
    (subst (λ (z : List ℕ). AreTags z v x) p h))

pub lacks_as : {t u : List ℕ} {v w : List (Bor (List ℕ))} {status : ℕ} {line : List ℕ}
    → t ≡ u → v ≡ w → LacksTag t v status line → LacksTag u w status line
lacks_as {u = u} {v = v} {status = status} {line = line} p q h =
    subst (λ (z : List (Bor (List ℕ))). LacksTag u z status line) q
    (subst (λ (z : List ℕ). LacksTag z v status line) p h)
