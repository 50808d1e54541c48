-- Elements: as trees, and one after the other, each with its depth. Names and values are bytes of UTF-8.
use Rattle.std.specs.Prelude.{ℕ, suc, List, [], ◌∷◌, ◌++◌, map, string_bytes}
use Rattle.plain_xml.specs.declared.element.Attribute.{Attribute}
use Rattle.plain_xml.specs.declared.element.Element.{Element}

-- an attribute: its name and its value
abbrev pub Pair : Type 0
Pair = List ℕ × List ℕ

-- an element, without those in it
pub record Flat : Type 0 where
  pub depth : ℕ
  pub name : List ℕ
  pub attributes : List Pair

mutual
  -- an element, with those in it
  pub data Tree : Type 0 where
    element : (name : List ℕ) → (attributes : List Pair) → (below : Trees) → Tree

  pub data Trees : Type 0 where
    no_trees : Trees
    tree : Tree → Trees → Trees

-- an element and those in it, in document order
abbrev mutual
  pub flat : ℕ → Tree → List Flat
  flat depth (element name attributes below) =
      record { depth = depth; name = name; attributes = attributes } ∷ flat_below (suc depth) below

  pub flat_below : ℕ → Trees → List Flat
  flat_below depth no_trees = []
  flat_below depth (tree t ts) = flat depth t ++ flat_below depth ts

-- what is returned of them
abbrev pub attribute_view : {A : Type 0} → Attribute A → Pair
attribute_view a = (string_bytes a.name, string_bytes a.value)

abbrev pub element_view : {A : Type 0} → Element A → Flat
element_view e = record { depth = e.depth; name = string_bytes e.name; attributes = map attribute_view e.attributes.items }
