-- The tags on the way to an item.
use Rattle.std.specs.Prelude.{ℕ, List, [], ◌∷◌, ◌++◌, take}
use Rattle.kmip_ttlv_items.specs.declared.found.FoundItem.{FoundItem}

-- the tags down to an item, by those down to the one that was met before it: as many of these as structures are around it, and its own
abbrev pub tags_down : List ℕ → FoundItem → List ℕ
tags_down before i = take i.depth before ++ i.tag ∷ []

-- the tags down to the last of some items, by those down to the one that was met before them
abbrev pub tags_from : List ℕ → List FoundItem → List ℕ
tags_from before [] = before
tags_from before (i ∷ is) = tags_from (tags_down before i) is

-- the tags of the structures around the last of the items that were met, from the root on, and its own
abbrev pub tags_to : List FoundItem → List ℕ
tags_to met = tags_from [] met
