-- The texts of a printer without names of tags.
use Rattle.std.proofs.Common.{◌≡◌, ℕ, suc, ◌-◌, Bool, false, List, [], ◌∷◌, ◌++◌, Option, Some, Ok, if◌then◌else◌, length, refl, sym, ap, ◌∙◌, subst, arith}
use Rattle.std.proofs.Common.{append_assoc, append-nil, length-append, codes}
use Rattle.std.specs.List.{slice_get}
use Rattle.std.proofs.lemmas.{List.get_or_push, Option.slice_get-get_or}
use Rattle.kmip_ttlv.specs.{declared.types.TtlvType.TtlvType, declared.types.TtlvType.TheVariants.Structure, Lines.tag_part, Lines.typ_part, Undiag.undiag}
use Rattle.kmip_ttlv.specs.{TagNames.no_names}
use Rattle.kmip_ttlv.specs.Trees.{Tree, Trees, leaf, node, no_trees, tree}
use Rattle.kmip_ttlv.specs.Pretty.{IsPrinted, IsPretty, pretty, pretty_all, pretty_line, data_shown}
use Rattle.hex_to_txt_run.specs.Inputs.{decoded}
use Rattle.hex_to_txt_run.specs.TaskTexts.{ended, is_line_feed, PrintsReadable}

-- a text that ends with a line feed
EndsLine : List ℕ → Type 0
EndsLine text = (front : List ℕ) × (text ≡ front ++ 10 ∷ [])

ends_after : (a b : List ℕ) → EndsLine b → EndsLine (a ++ b)
unfolding EndsLine
ends_after a b ends = (a ++ ends.0, ap (λ l. a ++ l) ends.1 ∙ sym (append_assoc a ends.0 (10 ∷ [])))

line_ends : (names : ℕ → Option (List ℕ)) (depth tag : ℕ) (typ : TtlvType) (content : List ℕ) → EndsLine (pretty_line names depth tag typ content)
unfolding EndsLine pretty_line
line_ends names depth tag typ content = ends_after (typ_part (tag_part names) depth tag typ) _ (ends_after (codes ", Data:") _ (data_shown typ content, refl))

mutual
  pretty_ends : (names : ℕ → Option (List ℕ)) (depth : ℕ) (t : Tree) → EndsLine (pretty names depth t)
  pretty_ends names depth (leaf tag typ content) = line_ends names depth tag typ content
  pretty_ends names depth (node tag below) = all_end names (suc depth) (pretty_line names depth tag Structure []) below (line_ends names depth tag Structure [])

  all_end : (names : ℕ → Option (List ℕ)) (depth : ℕ) (front : List ℕ) (ts : Trees) → EndsLine front → EndsLine (front ++ pretty_all names depth ts)
  all_end names depth front no_trees ends = subst EndsLine (sym (append-nil front)) ends
  all_end names depth front (tree t ts) ends = ends_after front _ (all_end names depth (pretty names depth t) ts (pretty_ends names depth t))

last_is : (front : List ℕ) → slice_get (front ++ 10 ∷ []) (length (front ++ 10 ∷ []) - 1) ≡ Some 10
last_is front =
    let long : length (front ++ 10 ∷ []) - 1 ≡ length front = omega (arith, length-append front (10 ∷ [])) in
    ap (slice_get (front ++ 10 ∷ [])) long ∙ slice_get-get_or (front ++ 10 ∷ []) (length front) 0 (omega (arith, length-append front (10 ∷ [])))
    ∙ ap Some (get_or_push front 10 0 (length front) refl)

-- no line feed is added to such a text
ended_line : (text : List ℕ) → EndsLine text → ended text ≡ text
unfolding EndsLine
ended_line text (front, is) =
    let P : List ℕ → Type 0 = λ l. ended l ≡ l in
    let line = front ++ 10 ∷ [] in
    subst P (sym is) (ap (λ o. if is_line_feed o then line else (line ++ 10 ∷ [])) (last_is front))

module _ (input bytes readable text : List ℕ) (decodes : decoded input ≡ Ok bytes) (prints : text ≡ ended readable) where
  readable_unnamed : IsPrinted no_names false bytes readable → IsPretty no_names false bytes readable → PrintsReadable input text
  readable_unnamed is exact = record {
    bytes = bytes;
    readable = readable;
    decodes = decodes;
    is = is;
    prints = prints;
    message = λ t m. prints ∙ ap ended (exact t m.text m.root m.full) ∙ ended_line _ (pretty_ends no_names 0 t);
  }

  pub prints_readable : (names : ℕ → Option (List ℕ)) (closed : Bool) → names ≡ no_names → closed ≡ false → IsPrinted names closed bytes readable
      → IsPretty names closed bytes readable → PrintsReadable input text
  prints_readable names closed none is_open is exact =
      let Both : (ℕ → Option (List ℕ)) → Bool → Type 0 = λ ns b. IsPrinted ns b bytes readable × IsPretty ns b bytes readable in
      let first = subst (λ (ns : ℕ → Option (List ℕ)). Both ns closed) none (is, exact) in
      let both = subst (λ (b : Bool). Both no_names b) is_open first in
      readable_unnamed both.0 both.1

pub prints_undiag : (names : ℕ → Option (List ℕ)) (prefix prefix' diagnostic back : List ℕ) → names ≡ no_names → prefix ≡ prefix'
    → back ≡ undiag names prefix diagnostic → back ≡ undiag no_names prefix' diagnostic
prints_undiag names prefix prefix' diagnostic back none same is = is ∙ ap (λ ns. undiag ns prefix diagnostic) none ∙ ap (λ p. undiag no_names p diagnostic) same

pub then_line_feed : (text front back feed : List ℕ) → text ≡ front ++ feed → feed ≡ 10 ∷ [] → front ≡ back → text ≡ back ++ 10 ∷ []
then_line_feed text front back feed is fed same = is ∙ ap (λ l. front ++ l) fed ∙ ap (λ l. l ++ 10 ∷ []) same
