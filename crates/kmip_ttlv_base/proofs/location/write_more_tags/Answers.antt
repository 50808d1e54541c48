use Rattle.std.proofs.Common.{◌≡◌, ℕ, ◌+◌, ◌<◌, List, [], ◌∷◌, ◌++◌, length, take, get_or, codes, sym, ◌∙◌, ap, rules}
use Rattle.std.proofs.lemmas.{Grind.put_two, List.take_more, List.flat_map_more}
use Rattle.std.specs.{List.flat_map, Fmt.HasWritten}
use Rattle.kmip_ttlv_types.specs.Digits.{tag_text}
use Rattle.kmip_ttlv_base.specs.LocationTexts.{more_tags}
use Rattle.kmip_ttlv_base.proofs.location.write_more_tags.Goals as goal

-- one tag more
more_tags-take : (tags : List ℕ) (i t : ℕ) → i < length tags → t ≡ get_or tags i t → more_tags (take i tags) ++ (codes " > " ++ tag_text t) ≡ more_tags
    (take (i + 1) tags)
unfolding more_tags
more_tags-take tags i t low is = flat_map_more (λ t. codes " > " ++ tag_text t) [] (take i tags) t
    ∙ ap (flat_map (λ t. codes " > " ++ tag_text t)) (sym (take_more tags i t low ∙ ap (λ x. take i tags ++ x ∷ []) (sym is)))

pub loop-tag-init : goal.loop-tag-init
unfolding more_tags
loop-tag-init g c = search rules

pub loop-tag-preserved : goal.loop-tag-preserved
loop-tag-preserved g c = λ p.
    let before = c.loop-tag.invariant p in
    let one : HasWritten g.W.Write.write_str_gives c.loop-tag.f (codes " > " ++ tag_text c.tag-item.result) c.write.new.self = search rules in
    put_two g.W.Write.write_str_gives _ _ _ _ _ _ before one (more_tags-take c.args.tags.now c.loop-tag.tag-index c.tag-item.result c.loop-tag-test.true
    c.tag-item.is)
