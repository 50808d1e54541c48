-- What the printer's calls return for well-formed messages, and what diagnostics show.
use Rattle.std.specs.Prelude.{slice_index, EachIndex, ◌≡◌, ℕ, Bool, false, ◌<◌, List, ◌↔◌, length}
use Rattle.kmip_ttlv_types.specs.Trees.{Tree, IsTreeText, IsStructure, HasNoEmpty}
use Rattle.kmip_ttlv_util.specs.Outlines.{Outline, IsOutline, diag, outline_of}
use Rattle.kmip_ttlv_util.specs.Traces.{trace}
use Rattle.kmip_ttlv_util.specs.Diagnostics.{hostile}

-- the text of a message's outline, and of no other
pub record Exact (prefix : List ℕ) (t : Tree) (text : List ℕ) : Type 0 where
  pub is : text ≡ diag prefix (outline_of t)
  pub only : (o : Outline) → IsOutline o → (text ≡ diag prefix o) ↔ (o ≡ outline_of t)

-- of a well-formed message, which has no empty structure unless these are closed
abbrev pub IsExact : List ℕ → Bool → List ℕ → List ℕ → Type 0
IsExact prefix closed bytes text =
    (t : Tree)
    → IsTreeText t bytes
    → IsStructure t
    → (closed ≡ false → HasNoEmpty t)
    → Exact prefix t text

-- two well-formed messages have equal diagnostics if and only if their outlines are equal
abbrev pub DetermineOutlines : Type 0
DetermineOutlines =
    (prefix : List ℕ) (closed : Bool) (a b : List ℕ) (t u : Tree)
    → EachIndex a (λ i. slice_index a i < 256)
    → EachIndex b (λ i. slice_index b i < 256)
    → IsTreeText t a
    → IsTreeText u b
    → IsStructure t
    → IsStructure u
    → (closed ≡ false → HasNoEmpty t)
    → (closed ≡ false → HasNoEmpty u)
    → (hostile prefix closed (length a) (trace closed a) ≡ hostile prefix closed (length b) (trace closed b))
    ↔ (outline_of t ≡ outline_of u)

-- under one prefix, equal diagnostics are those of equal outlines
abbrev pub HasOneOutline : Type 0
HasOneOutline = (prefix : List ℕ) (o p : Outline) → IsOutline o → IsOutline p → diag prefix o ≡ diag prefix p → o ≡ p
