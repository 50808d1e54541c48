-- The statements of the laws.
use Rattle.std.specs.Prelude.{◌≡◌, ◌↔◌, ℕ, ◌+◌, ◌<◌, ◌≤◌, true, List, [], ◌∷◌, ◌++◌, length, map, take, Some}
use Rattle.std.specs.List.{AllByRecursion}
use Rattle.kmip_ttlv_types.specs.Items.{Raw, IsTextOf, Splits}
use Rattle.kmip_ttlv_types.specs.Names.{number}
use Rattle.kmip_ttlv_types.specs.Places.{length_at}
use Rattle.kmip_ttlv_types.specs.Trees.{Tree, bytes, bytes_all, raw_of, IsTreeText}
use Rattle.kmip_ttlv_base.specs.Forms.{Form, enum, Variants}
use Rattle.kmip_ttlv_base.specs.Values.{Value, unit_variant_value}
use Rattle.kmip_ttlv_ser.specs.declared.pending.PendingTag.{PendingTag}
use Rattle.kmip_ttlv_ser.specs.declared.pending.PendingTag.TheVariants.{Nothing, Plain}
use Rattle.kmip_ttlv_ser.specs.EncodeResults.{IsWrittenAs}
use Rattle.kmip_ttlv_ser.specs.WrittenItems.{items, take_tag}
use Rattle.kmip_ttlv_reader.specs.ReadResults.{NothingBegins, other}
use Rattle.kmip_ttlv_reader.specs.TagValues.{TagValue}
use Rattle.kmip_ttlv_reader.specs.Reads.{Reads, Begins, is_root, stored_after_leaf}
use Rattle.kmip_ttlv_parts.specs.Contents.{ContainsItems}
use Rattle.kmip_ttlv_parts.specs.Texts.{TextsAreUtf8}
use Rattle.kmip_ttlv_parts.specs.Agreements.{Head, Agrees, MessageAgrees}
use Rattle.kmip_ttlv_parts.specs.Returns.{ComesBack, NamesUnit, text_of_number}
use Rattle.kmip_ttlv_parts.specs.Padding.{SameButPadding, EndsInLack}

-- after the whole encoding of an item any bytes may follow in place of any others
abbrev pub LaterBytes : Type 0
LaterBytes =
    (s : Form) (x : Raw) (text after later : List ℕ) (v : Value)
    → IsTextOf x text
    → Begins s (text ++ after) v ↔ Begins s (text ++ later) v

-- and so they may after the bytes that the first item's length states, if they are all there, whatever they are
abbrev pub MessageAlone : Type 0
MessageAlone =
    (s : Form) (bytes after : List ℕ) (v : Value)
    → 8 + length_at bytes 0 ≤ length bytes
    → Begins s bytes v ↔ Begins s (take (8 + length_at bytes 0) bytes ++ after) v

-- a message that is cut before its end begins with no value, and has no error but an early end or out of memory
abbrev pub CutMessages : Type 0
CutMessages =
    (s : Form) (x : Raw) (front back : List ℕ) (v : Value)
    → IsTextOf x (front ++ back)
    → 0 < length back
    → Begins s (front ++ back) v
    → ((w : Value) → Begins s front w → ⊥) × (NothingBegins s front other → ⊥)

-- bytes encode at most one tree
abbrev pub OneTree : Type 0
OneTree = (t u : Tree) (text : List ℕ) → IsTreeText t text → IsTreeText u text → t ≡ u

-- from the item alone, with no texts stored before, the form reads the value
abbrev pub ReadsAlone : Form → Raw → Value → Type 0
ReadsAlone s x v = (stored : List TagValue) × Reads s [] (x ∷ []) v stored []

-- encoded bytes, after any number of others, begin with what a root form reads from the first of the items
abbrev pub ReadingWhatWasWritten : Type 0
ReadingWhatWasWritten =
    (v d : Value) (n : ℕ) (written : List ℕ) (r : Tree) (rest : List Tree) (s : Form)
    → IsWrittenAs v n written
    → items v Nothing ≡ Some (r ∷ rest)
    → is_root s ≡ true
    → Begins s written d ↔ ReadsAlone s (raw_of r) d

-- encodings of two items that are the same but for padding, whatever follows them, begin with the same values
abbrev pub PaddingIsFree : Type 0
PaddingIsFree =
    (s : Form) (x y : Raw) (a b after later : List ℕ) (v : Value)
    → SameButPadding x y
    → IsTextOf x a
    → IsTextOf y b
    → Begins s (a ++ after) v ↔ Begins s (b ++ later) v

-- all encodings of one tree encode items that are the same but for padding
abbrev pub TextsDifferInPadding : Type 0
TextsDifferInPadding =
    (t : Tree) (x y : Raw) (a b : List ℕ)
    → IsTreeText t a
    → IsTreeText t b
    → IsTextOf x a
    → IsTextOf y b
    → SameButPadding x y

-- all encodings of one tree, whatever follows them, begin with the same values
abbrev pub PaddingOfTreesIsFree : Type 0
PaddingOfTreesIsFree =
    (s : Form) (t : Tree) (a b after later : List ℕ) (v : Value)
    → IsTreeText t a
    → IsTreeText t b
    → Begins s (a ++ after) v ↔ Begins s (b ++ later) v

-- no form reads from a Structure whose last item lacks padding, whatever was stored before and whatever follows
abbrev pub PaddingIsRequired : Type 0
PaddingIsRequired =
    (s : Form) (k k' : List TagValue) (x : Raw) (xs ys : List Raw) (v : Value)
    → EndsInLack x
    → Reads s k (x ∷ xs) v k' ys
    → ⊥

-- nor does a message begin with it
abbrev pub PaddingOfRootsIsRequired : Type 0
PaddingOfRootsIsRequired =
    (s : Form) (x : Raw) (text after : List ℕ) (v : Value)
    → IsTextOf x text
    → EndsInLack x
    → Begins s (text ++ after) v
    → ⊥

-- a value whose texts are UTF-8 is encoded as the canonical bytes of each of its items, which encode it, in order
abbrev pub WrittenIsWellFormed : Type 0
WrittenIsWellFormed =
    (v : Value) (n : ℕ) (written : List ℕ) (ts : List Tree)
    → IsWrittenAs v n written
    → items v Nothing ≡ Some ts
    → TextsAreUtf8 v
    → AllByRecursion (λ t. IsTreeText t (bytes t)) ts × (written ≡ bytes_all ts)

-- a tree that has any encoding has its canonical bytes as one, and these are as long
abbrev pub CanonicalIsText : Type 0
CanonicalIsText =
    (t : Tree) (text : List ℕ)
    → IsTreeText t text
    → IsTreeText t (bytes t) × (length (bytes t) ≡ length text)

-- an encoding of a tree begins with what a root form reads from the tree's item
abbrev pub ReadingTrees : Type 0
ReadingTrees =
    (s : Form) (t : Tree) (text after : List ℕ) (v : Value)
    → is_root s ≡ true
    → IsTreeText t text
    → Begins s (text ++ after) v ↔ ReadsAlone s (raw_of t) v

-- the one value is encoded under this tag as one leaf, from which the form reads the other, whatever was stored before
-- and whatever follows
abbrev pub LeafComesBack : Form → Value → Value → ℕ → List TagValue → List Raw → Type 0
LeafComesBack s v w t k xs =
    (x : Tree) × (items v (Plain t) ≡ Some (x ∷ [])) × Reads s k (raw_of x ∷ xs) w (stored_after_leaf s (raw_of x) k) xs

-- each pair of values that comes back does so as one leaf
abbrev pub LeavesComeBack : Type 0
LeavesComeBack =
    (s : Form) (v w : Value) (t : ℕ) (k : List TagValue) (xs : List Raw)
    → ComesBack s v w
    → LeafComesBack s v w t k xs

-- the variant is encoded under the pending tag as one leaf, from which the enum reads the unit named by the number's
-- text, and stores that text, whatever was stored before and whatever follows
abbrev pub UnitComesBack : (name vname own : List ℕ) → Variants → PendingTag → (t n : ℕ) → List TagValue → List Raw → Type 0
UnitComesBack name vname own vs w t n k xs =
    let stored = k ++ record { tag = t; text = text_of_number n } ∷ [] in
    (x : Tree) × (items (unit_variant_value name vname) w ≡ Some (x ∷ []))
    × Reads (enum own vs) k (raw_of x ∷ xs) (unit_variant_value own (text_of_number n)) stored xs

-- each unit variant of a number does so, if the enum names a unit by that number
abbrev pub UnitsComeBack : Type 0
UnitsComeBack =
    (name vname own : List ℕ) (vs : Variants) (w : PendingTag) (t n : ℕ) (k : List TagValue) (xs : List Raw)
    → take_tag w name ≡ Some t → number vname ≡ Some n → NamesUnit vs k n → UnitComesBack name vname own vs w t n k xs

-- what agrees with a form is encoded as items, the first of this head
abbrev pub AgreeingIsWritten : Type 0
AgreeingIsWritten =
    (s : Form) (k k' : List TagValue) (h : PendingTag) (w v : Value) (x : Head) → Agrees s k h w x v k'
    → (t : Tree) × (ts : List Tree) × (items w h ≡ Some (t ∷ ts)) × ((raw_of t).tag ≡ x.tag) × ((raw_of t).typ ≡ x.typ)

-- if a value agrees with a root form, as another one, and is encoded, the bytes begin with that one and no other
abbrev pub AgreeingIsRead : Type 0
AgreeingIsRead =
    (s : Form) (w v d : Value) (n : ℕ) (written : List ℕ)
    → is_root s ≡ true → MessageAgrees s w v → IsWrittenAs w n written → Begins s written d ↔ (d ≡ v)

-- encoded bytes are the items of the trees, in order, and so is each content, at every depth
abbrev pub WrittenIsItems : Type 0
WrittenIsItems =
    (v : Value) (n : ℕ) (written : List ℕ) (ts : List Tree)
    → IsWrittenAs v n written
    → items v Nothing ≡ Some ts
    → Splits (map raw_of ts) written × AllByRecursion ContainsItems ts
