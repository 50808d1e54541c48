-- Laws of written items.
use Rattle.std.specs.Prelude.{◌≡◌, ℕ, ◌<◌, ◌^◌, List, map, length}
use Rattle.kmip_ttlv_types.specs.Trees.{Tree, no_trees, tree, bytes, IsStructure}
use Rattle.kmip_ttlv_items.specs.declared.found.FoundItem.{FoundItem}
use Rattle.kmip_ttlv_items.specs.FoundItems.{Lists}
use Rattle.kmip_ttlv_write.specs.declared.given.GivenItem.{GivenItem}
use Rattle.kmip_ttlv_write.specs.GivenItems.{given_of, line_of, IsWritten}

-- the same items have the same bytes
abbrev pub HaveOneText : Type 0
HaveOneText = (xs : List GivenItem) (lent a b : List ℕ) → IsWritten xs lent a → IsWritten xs lent b → a ≡ b

-- the items of a whole message are written as its canonical bytes
abbrev pub AreWrittenBack : Type 0
AreWrittenBack =
    (message : List ℕ) (xs : List FoundItem)
    → length message < 2 ^ 64
    → (h : Lists message xs)
    → IsWritten (map given_of xs) message (bytes h.message)

-- and if it is canonical, as the message itself
abbrev pub CanonicalStays : Type 0
CanonicalStays =
    (message : List ℕ) (xs : List FoundItem)
    → length message < 2 ^ 64
    → (h : Lists message xs)
    → message ≡ bytes h.message
    → IsWritten (map given_of xs) message message

-- a message has, in document order, items of the same depths, tags, types and contents
pub record HasItems (xs : List GivenItem) (lent message : List ℕ) : Type 0 where
  pub found : List FoundItem
  pub lists : Lists message found
  pub same : map (line_of message) (map given_of found) ≡ map (line_of lent) xs

-- if the items are one structure with everything in it, what is written is a whole message with these items
abbrev pub AreMessages : Type 0
AreMessages =
    (xs : List GivenItem) (lent out : List ℕ)
    → (w : IsWritten xs lent out)
    → (root : Tree)
    → w.trees ≡ tree root no_trees
    → IsStructure root
    → HasItems xs lent out
