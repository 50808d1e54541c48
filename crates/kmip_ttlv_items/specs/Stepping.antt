-- A walk, step by step.
use Rattle.std.specs.Prelude.{ℕ, ◌+◌, ◌-◌, ◌<◌, ◌≤◌, ◌≡◌, List, [], ◌∷◌, ◌++◌, length}
use Rattle.kmip_ttlv_types.specs.Places.{size}
use Rattle.kmip_ttlv_items.specs.declared.found.FoundItem.{FoundItem}
use Rattle.kmip_ttlv_items.specs.declared.found.Step.{Step}
use Rattle.kmip_ttlv_items.specs.declared.found.Step.TheVariants.{Item, End}
use Rattle.kmip_ttlv_items.specs.declared.item_walk.ItemWalk.{ItemWalk}
use Rattle.kmip_ttlv_items.specs.Enclosing.{open_ends}
use Rattle.kmip_ttlv_items.specs.ItemWalks.{IsWhole, Meets, Ended}

-- the items that a walk has met
abbrev pub Met : {A : Type 0} → ItemWalk A → List FoundItem → Type 0
Met walk xs = Meets walk.bytes.now walk.offset (open_ends walk.ends) xs

-- how many bytes are left
abbrev pub left : {A : Type 0} → ItemWalk A → ℕ
left walk = length walk.bytes.now - walk.offset

-- the walk met one more item, which is whole, and moved on
pub record StepsTo {A : Type 0} (old new : ItemWalk A) (i : FoundItem) : Type 0 where
  pub met : (xs : List FoundItem) → Met old xs → Met new (xs ++ (i ∷ []))
  pub whole : IsWhole old.bytes.now i.offset (i.offset + size i.typ i.length) i.depth i
  pub onward : left new < left old

-- the walk met no further item
abbrev pub Stays : {A : Type 0} → ItemWalk A → ItemWalk A → Type 0
Stays old new = (xs : List FoundItem) → Met old xs → Met new xs

-- what a step returns: the item that was met, or how the walk ended
abbrev pub Steps : {A : Type 0} → ItemWalk A → ItemWalk A → Step → Type 0
Steps old new (Item i) = StepsTo old new i
Steps old new (End fault) = Stays old new × ((xs : List FoundItem) → Met old xs → Ended old.bytes.now xs fault)

-- the walk passed any number of items
pub record Passes {A : Type 0} (old new : ItemWalk A) : Type 0 where
  pub bytes : new.bytes.now ≡ old.bytes.now
  pub met : (xs : List FoundItem) → Met old xs → (more : List FoundItem) × Met new (xs ++ more)
  pub onward : left new ≤ left old
