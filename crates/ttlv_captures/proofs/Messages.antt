-- Where a text begins with a message, and where with none.
use Rattle.std.proofs.Common.{◌≡◌, ◌⊎◌, inl, inr, ℕ, ◌+◌, ◌<◌, ◌≤◌, Bool, true, false, ◌||◌, if◌then◌else◌, List, [], length, take}
use Rattle.std.proofs.Common.{refl, ap, sym, subst, ◌∙◌, arith, append-nil}
use Rattle.std.proofs.{lemmas.Bool.true≢false, Math.Bool.or-true, lemmas.Slice.Eq.bytes_eq-Decides}
use Rattle.std.specs.Prelude.{bytes_eq}
use Rattle.kmip_ttlv_types.specs.Items.{Raw, IsTextOf}
use Rattle.kmip_ttlv_types.specs.Places.{length_at}
use Rattle.kmip_ttlv_types.specs.Trees.{Tree, leaf, node, IsTreeText, IsStructure}
use Rattle.kmip_ttlv_types.specs.declared.typ.TtlvType.TheVariants.{Structure}
use Rattle.kmip_ttlv_types.proofs.PlaceLemmas.{raw_with, text_length, item_at_text, eight}
use Rattle.kmip_ttlv_items.specs.declared.found.FoundItem.{FoundItem}
use Rattle.kmip_ttlv_items.specs.FoundItems.{Lists}
use Rattle.ttlv_captures.specs.Notations.{tokens, bytes_of, widths, begins}
use Rattle.ttlv_captures.specs.Captures.{request, response, IsMessage, Stands, NoneIn, NoneHere, is_start, size_stated, cost_in}
use Rattle.ttlv_captures.specs.declared.notation.Notation.{Notation}
use Rattle.ttlv_captures.specs.declared.notation.Notation.TheVariants.{Raw as InBytes, Hexadecimal, Numbers, Escaped}
use Rattle.ttlv_captures.proofs.Tokens.{bytes_fewer, bytes_few}

-- a message is as long as its header states
item_size : (x : Raw) (text : List ℕ) → x.typ ≡ Structure → IsTextOf x text → 8 + length_at text 0 ≡ length text
item_size x text is t =
    let at = item_at_text text 0 x text [] (omega arith) (sym (append-nil text)) t in
    let long = text_length x text t in
    omega (arith, at.len, rw is at long)

tree_size : (t : Tree) (text : List ℕ) → IsTreeText t text → IsStructure t → 8 + length_at text 0 ≡ length text
tree_size (leaf tag typ content) text h root = absurd root
tree_size (node tag below) text h root = item_size (raw_with tag Structure h.0) text refl h.1

pub size_is : (bytes : List ℕ) (xs : List FoundItem) → Lists bytes xs → 8 + length_at bytes 0 ≡ length bytes
size_is bytes xs l = tree_size l.message bytes l.text l.root

-- so its first eight bytes state
pub stated : (bytes : List ℕ) → IsMessage bytes → size_stated (take 8 bytes) ≡ length bytes
stated bytes m =
    let size = size_is bytes m.items m.lists in
    ap size_stated (eight bytes (omega (arith, size))) ∙ size

-- where a message is written its header is, so that it is tried
starts : (n : Notation) (s bytes : List ℕ) → IsMessage bytes → bytes_of (tokens n 4 s) ≡ take 4 bytes → is_start n s ≡ true
starts n s bytes m are = elim m.root [
  | inl is ↦ ap (λ (bs : List ℕ). bytes_eq bs request || begins n s response) (are ∙ is)
  | inr is ↦ ap (λ (bs : List ℕ). begins n s request || bytes_eq bs response) (are ∙ is) ∙ or-true (begins n s request)
]

pub none_unstarted : (n : Notation) (s : List ℕ) → is_start n s ≡ false → NoneIn n s
none_unstarted n s un bytes taken st =
    let long = size_is bytes st.message.items st.message.lists in
    let are = bytes_fewer n 4 (length bytes) s bytes (omega (arith, long)) st.written.bytes_are in
    true≢false (sym (starts n s bytes st.message are) ∙ un)

-- a message that is written is what is read as far as its header states
pub read_is : (n : Notation) (s bytes : List ℕ) (taken : ℕ) → Stands n s bytes taken → bytes_of (tokens n (size_stated (bytes_of (tokens n 8 s))) s) ≡ bytes
read_is n s bytes taken st =
    let long = size_is bytes st.message.items st.message.lists in
    let header = bytes_fewer n 8 (length bytes) s bytes (omega (arith, long)) st.written.bytes_are in
    ap (λ (h : List ℕ). bytes_of (tokens n (size_stated h) s)) header ∙ ap (λ (k : ℕ). bytes_of (tokens n k s)) (stated bytes st.message) ∙ st.written.bytes_are

pub read_size : (n : Notation) (s bytes : List ℕ) (taken : ℕ) → Stands n s bytes taken → size_stated (bytes_of (tokens n 8 s)) ≡ length bytes
read_size n s bytes taken st =
    let long = size_is bytes st.message.items st.message.lists in
    let header = bytes_fewer n 8 (length bytes) s bytes (omega (arith, long)) st.written.bytes_are in
    ap size_stated header ∙ stated bytes st.message

-- no message is written where fewer bytes are read, or such that are no message
pub none_short : (n : Notation) (s : List ℕ) (size : ℕ) → size ≡ size_stated (bytes_of (tokens n 8 s)) → length (bytes_of (tokens n size s)) < size → NoneIn n s
none_short n s size is few bytes taken st =
    let all = ap (λ (k : ℕ). bytes_of (tokens n k s)) is ∙ read_is n s bytes taken st in
    let long = is ∙ read_size n s bytes taken st in
    absurd (omega (arith, ap length all, long))

pub none_faulty : (n : Notation) (s : List ℕ) (size : ℕ) → size ≡ size_stated (bytes_of (tokens n 8 s))
    → ((xs : List FoundItem) → Lists (bytes_of (tokens n size s)) xs → ⊥) → NoneIn n s
none_faulty n s size is none bytes taken st =
    let all = ap (λ (k : ℕ). bytes_of (tokens n k s)) is ∙ read_is n s bytes taken st in
    none st.message.items (subst (λ (bs : List ℕ). Lists bs st.message.items) (sym all) st.message.lists)

-- in no notation
pub none_here : (s : List ℕ) → NoneIn InBytes s → NoneIn Hexadecimal s → NoneIn Numbers s → NoneIn Escaped s → NoneHere s
none_here s a b c d InBytes = a
none_here s a b c d Hexadecimal = b
none_here s a b c d Numbers = c
none_here s a b c d Escaped = d

-- what is written begins as a message where its text does
either : {P Q : Type 0} → (a b : Bool) → (a || b) ≡ true → (a ≡ true → P) → (b ≡ true → Q) → P ⊎ Q
either true b h f g = inl (f refl)
either false b h f g = inr (g h)

pub root_is : (n : Notation) (s : List ℕ) → is_start n s ≡ true → (bytes_of (tokens n 4 s) ≡ request) ⊎ (bytes_of (tokens n 4 s) ≡ response)
root_is n s start = either (begins n s request) (begins n s response) start
    ((bytes_eq-Decides (bytes_of (tokens n 4 s)) request).0) ((bytes_eq-Decides (bytes_of (tokens n 4 s)) response).0)

-- so it begins with a message if that is well-formed and as long as its header states
pub written : (n : Notation) (s bytes : List ℕ) (size taken : ℕ) (xs : List FoundItem) → 8 ≤ size → is_start n s ≡ true
    → bytes ≡ bytes_of (tokens n size s) → size ≤ length bytes → taken ≡ widths (tokens n size s) → Lists bytes xs → Stands n s bytes taken
written n s bytes size taken xs least start are long taken_is lists =
    let few = bytes_few n size s in
    let same : size ≡ length bytes = omega (arith, ap length are, few) in
    let four = bytes_fewer n 4 size s bytes (omega arith) (sym are) in
    record {
      written = record {
        bytes_are = ap (λ (k : ℕ). bytes_of (tokens n k s)) (sym same) ∙ sym are;
        taken_is = taken_is ∙ ap (λ (k : ℕ). widths (tokens n k s)) same;
      };
      message = record {
        root = elim (root_is n s start) [ inl is ↦ inl (sym four ∙ is) | inr is ↦ inr (sym four ∙ is) ];
        items = xs;
        lists = lists;
      };
    }

-- what is read in vain
pub cost_none : (n : Notation) (s : List ℕ) → is_start n s ≡ false → 0 ≡ cost_in n s
cost_none n s un = sym (ap (λ (b : Bool). if b then widths (tokens n (size_stated (bytes_of (tokens n 8 s))) s) else 0) un)

pub cost_some : (n : Notation) (s : List ℕ) (size taken : ℕ) → is_start n s ≡ true → size ≡ size_stated (bytes_of (tokens n 8 s))
    → taken ≡ widths (tokens n size s)
    → taken ≡ cost_in n s
cost_some n s size taken start is taken_is =
    taken_is ∙ ap (λ (k : ℕ). widths (tokens n k s)) is
    ∙ sym (ap (λ (b : Bool). if b then widths (tokens n (size_stated (bytes_of (tokens n 8 s))) s) else 0) start)
