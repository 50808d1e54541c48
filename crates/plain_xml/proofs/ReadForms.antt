-- Texts: the elements that are read are those of a form of an element, and those of each form are read.
use Rattle.std.proofs.Common.{◌≡◌, ℕ, Bool, true, false, not, List, [], ◌∷◌, ◌++◌, length, drop}
use Rattle.std.proofs.Common.{Result, Ok, Err, refl, sym, ap, subst, ◌∙◌, inl, inr, arith}
use Rattle.std.specs.Prelude.{nat_lt}
use Rattle.std.specs.List.{AllByRecursion, prefix_len}
use Rattle.std.proofs.lemmas.Bool.{ltb-false, le-ltb}
use Rattle.std.proofs.lemmas.List.{append-nil, length-drop}
use Rattle.plain_xml.specs.declared.failure.Fault.{Fault}
use Rattle.plain_xml.specs.declared.failure.Stop.{Stop}
use Rattle.plain_xml.specs.declared.failure.Stop.TheVariants.{NoMemory, At}
use Rattle.plain_xml.specs.declared.failure.XmlError.{XmlError}
use Rattle.plain_xml.specs.declared.failure.XmlError.TheVariants.{Malformed, OutOfMemory}
use Rattle.plain_xml.specs.Readings.{IsNoMemory, IsErrorOf, IsFirstFault, FailsFirst}
use Rattle.plain_xml.specs.Faults.{Fails, Gives}
use Rattle.plain_xml.specs.Characters.{is_character}
use Rattle.plain_xml.specs.Elements.{Flat, Tree, flat}
use Rattle.plain_xml.specs.Documents.{document}
use Rattle.plain_xml.specs.Forms.{IsXmlOf, AreElementsOf}
use Rattle.plain_xml.proofs.Tools.{ok_is, cases_bool, splits, prefix_len-parts}
use Rattle.plain_xml.proofs.TreeForms.{elements_taken, elements_back}

abbrev right : ℕ → Bool
right c = not (not (is_character c))

twice : (b : Bool) → not (not b) ≡ b
twice true = refl
twice false = refl

all_right : (text : List ℕ) → AllByRecursion (λ c. right c ≡ true) text → AllByRecursion (λ c. is_character c ≡ true) text
all_right [] h = tt
all_right (c ∷ cs) h = (sym (twice (is_character c)) ∙ h.0, all_right cs h.1)

right_all : (text : List ℕ) → AllByRecursion (λ c. is_character c ≡ true) text → AllByRecursion (λ c. right c ≡ true) text
right_all [] h = tt
right_all (c ∷ cs) h = (twice (is_character c) ∙ h.0, right_all cs h.1)

none_behind : (text back : List ℕ) (n : ℕ) → nat_lt n (length text) ≡ false → drop n text ≡ back → back ≡ []
none_behind text [] n e d = refl
none_behind text (b ∷ bs) n e d = absurd (omega (arith, ltb-false n (length text) e, ap length d, length-drop n text))

held : (text : List ℕ) → nat_lt (prefix_len right text) (length text) ≡ false → AllByRecursion (λ c. is_character c ≡ true) text
held text e =
    let s = splits right text in
    let back : s.back ≡ [] = none_behind text s.back (prefix_len right text) e s.dropped in
    let whole : s.front ≡ text = sym (append-nil s.front) ∙ ap (λ (l : List ℕ). s.front ++ l) (sym back) ∙ sym s.parts in
    all_right text (subst (λ (l : List ℕ). AllByRecursion (λ c. right c ≡ true) l) whole s.pass)

pub document_taken : (text : List ℕ) (fs : List Flat) → document text ≡ Ok fs → AreElementsOf text fs
unfolding document
document_taken text fs e = elim (cases_bool (nat_lt (prefix_len right text) (length text))) [
  | inl bad ↦ absurd (cc (rw bad at e))
  | inr good ↦
      let t = elements_taken text fs (rw good at e) in
      record {
        root = t.root;
        flat_is = t.done_is;
        is = record { before = t.before; front = t.front; after = t.behind; are = t.are; is = t.is; text_is = t.parts; held = held text good };
      }
]

none_left : (text : List ℕ) → AllByRecursion (λ c. is_character c ≡ true) text → nat_lt (prefix_len right text) (length text) ≡ false
none_left text h =
    let n : prefix_len right (text ++ []) ≡ length text = prefix_len-parts right text [] (right_all text h) tt in
    le-ltb _ _ (omega (arith, ap (λ (l : List ℕ). prefix_len right l) (append-nil text), n))

pub document_again : (text : List ℕ) (root : Tree) → IsXmlOf text root → document text ≡ Ok (flat 0 root)
unfolding document
document_again text root h =
    let good = none_left text h.held in
    rw good (elements_back text h.before h.front h.after root h.text_is h.are.0 h.are.1 h.is)

-- what a call gave
pub gives_ok : {X Y : Type 0} (view : X → Y) (r : Result X Stop) (x : X) (d : Result Y Fault) → Gives view r d → r ≡ Ok x → d ≡ Ok (view x)
gives_ok {X} view r x d h e = subst (λ (s : Result X Stop). Gives view s d) e h

pub gives_fails : {X Y : Type 0} (view : X → Y) (r : Result X Stop) (s : Stop) (d : Result Y Fault) → Gives view r d → r ≡ Err s → Fails s d
gives_fails {X} view r s d h e = subst (λ (q : Result X Stop). Gives view q d) e h

-- what is returned is right
pub found_right : (text : List ℕ) (fs : List Flat) → document text ≡ Ok fs → AreElementsOf text fs
found_right text fs e = document_taken text fs e

pub only_right : (text : List ℕ) (fs : List Flat) (root : Tree) → document text ≡ Ok fs → IsXmlOf text root → fs ≡ flat 0 root
only_right text fs root e h = ok_is fs (flat 0 root) (sym e ∙ document_again text root h)

pub never_wrong : (text : List ℕ) (f : Fault) (root : Tree) → document text ≡ Err f → IsXmlOf text root → ⊥
never_wrong text f root e h = absurd (cc (e, document_again text root h))

pub err_only : (text : List ℕ) (stop : Stop) (error : XmlError) (root : Tree) → Fails stop (document text) → IsErrorOf text stop error → IsXmlOf text root
    → IsNoMemory error
err_only text NoMemory error root fails is h = rw is tt
err_only text (At f) error root fails is h = absurd (never_wrong text f root fails h)

first_is : (text : List ℕ) (f : Fault) (error : XmlError) → document text ≡ Err f → IsFirstFault text f error → FailsFirst text error
first_is text f (Malformed flaw offset) fails is = (f, fails, is)
first_is text f OutOfMemory fails is = tt

pub err_exact : (text : List ℕ) (stop : Stop) (error : XmlError) → Fails stop (document text) → IsErrorOf text stop error → FailsFirst text error
err_exact text NoMemory error fails is = rw is tt
err_exact text (At f) error fails is = first_is text f error fails is
