use Rattle.std.proofs.Common.{◌∙◌, ◌+◌, ◌++◌, ◌∷◌, [], ℕ, List, take, ap, sym, subst}
use Rattle.ttlv_run.specs.Tags.{AreTags}
use Rattle.ttlv_run.proofs.Tagging.{tags_more, first_unknown}
use Rattle.ttlv_run.proofs.tags.tags_asked.Goals as goal

pub words-preserved : goal.words-preserved
words-preserved g c =
    let k = c.words.word-index in
    subst (λ (s : List ℕ). AreTags c.args.table.now (take (k + 1) c.args.words.now) s)
    (sym (c.in-Ok.ensures.items ∙ ap (λ (t : ℕ). c.words.tags.items ++ t ∷ []) c.deref.ensures))
    (tags_more c.args.table.now c.args.words.now k _ c.words-test.true c.words.tags.items c.words.invariant c.in-Some.tag
    (sym c.tag_asked.ensures ∙ c.in-Some.is))

pub returns-in_default : goal.returns-in_default
returns-in_default g c = record {
  ok = tt;
  err = first_unknown c.args.table.now c.args.words.now c.words.word-index _ c.words-test.true c.words.tags.items c.words.invariant
      (sym c.tag_asked.ensures ∙ c.in_default.is);
}
