-- How places are printed.
use Rattle.std.specs.Prelude.{◌≡◌, ℕ, Bool, true, List, [], ◌∷◌, ◌++◌, Option, Some, None, option_map, is_none, ◌&&◌}
use Rattle.std.specs.Prelude.{if◌then◌else◌, codes, Result, IfOk}
use Rattle.std.specs.List.{flat_map}
use Rattle.std.specs.Fmt.{decimal, HasWritten, IsPlainFormatter}
use Rattle.std.specs.declared.fmt.Formatter.{Formatter}
use Rattle.kmip_ttlv_types.specs.Digits.{tag_text}
use Rattle.kmip_ttlv_types.specs.TypeTexts.{type_text}
use Rattle.kmip_ttlv_base.specs.Errors.{Location, is_nowhere}

-- how an offset is printed
abbrev pub position_text : ℕ → List ℕ
position_text n = codes "pos: " ++ decimal n ++ codes " bytes"

-- further tags, each after an angle bracket
unfoldable pub more_tags : List ℕ → List ℕ
more_tags tags = flat_map (λ t. codes " > " ++ tag_text t) tags

-- the tags around, the outermost first, if there are any
abbrev pub parents_text : List ℕ → Option (List ℕ)
parents_text [] = None
parents_text (t ∷ ts) = Some (codes "parent tags: " ++ tag_text t ++ more_tags ts)

-- a part that is known, with a comma and a space before it unless it is the first
abbrev pub part_text : Bool → Option (List ℕ) → List ℕ
part_text is_first None = []
part_text is_first (Some text) = (if is_first then [] else codes ", ") ++ text

-- `Unknown`, or the known parts in this order
abbrev pub location_text : Location → List ℕ
location_text l =
    let position = option_map position_text l.offset in
    let parents = parents_text l.parents in
    let tag = option_map (λ t. codes "tag: " ++ tag_text t) l.tag in
    let typ = option_map (λ t. codes "type: " ++ type_text t) l.typ in
    if is_nowhere l then codes "Unknown" else
    part_text true position ++ (part_text (is_none position) parents
    ++ (part_text (is_none position && is_none parents) tag
    ++ part_text (is_none position && is_none parents && is_none tag) typ))

-- a part was written, and what is returned is whether the next part is the first
abbrev pub WritesPart :
    {W E : Type 0} → (W → List ℕ → W → Type 0)
    → Formatter W → Bool → Option (List ℕ) → Result Bool E → Formatter W → Type 0
WritesPart took f is_first part result g =
    IsPlainFormatter f
    → IfOk result (λ next. HasWritten took f (part_text is_first part) g × (next ≡ is_first && is_none part))
