use Rattle.std.proofs.Common.{rules, ◌≡◌, ◌∙◌, List, ℕ, Some, None, ap, sym, string_bytes}
use Rattle.std.specs.Prelude.{slice_index}
use Rattle.kmip_words.specs.Words.{word_of}
use Rattle.kmip_ttlv_json.specs.declared.masks.TheConstants.{BITS}
use Rattle.kmip_ttlv_json.specs.Masks.{words_behind}
use Rattle.kmip_ttlv_json.proofs.Wordings.{bits_end, others, bit_passed, bit_with_word, bit_without}
use Rattle.kmip_ttlv_json.proofs.masks.words_behind.Goals as goal

pub bits-init : goal.bits-init
bits-init g c = ap (λ (s : List ℕ). words_behind c.args.tag c.args.separator c.args.mask s BITS) (sym c.new-text.ensures.bytes)

pub returns-in-None : goal.returns-in-None
returns-in-None g c =
    let rest = c.bits.rest.now in
    let none : word_of c.args.tag (slice_index rest 0) ≡ None = search rules in
    sym (c.bits.invariant ∙ bit_without c.args.tag c.args.separator c.args.mask (string_bytes c.bits.text) rest c.in-len1-up.len_at_least
    (sym c.has_bit.ensures ∙ c.if-has_bit.true) none)

pub bits-preserved-in_ok-push_behind-in-Some : goal.bits-preserved-in_ok-push_behind-in-Some
bits-preserved-in_ok-push_behind-in-Some g c =
    let rest = c.bits.rest.now in
    let word = c.in-Some.word.now in
    let text = string_bytes c.bits.text in
    let some : word_of c.args.tag (slice_index rest 0) ≡ Some word = search rules in
    c.bits.invariant
    ∙ bit_with_word c.args.tag c.args.separator c.args.mask text rest c.in-len1-up.len_at_least word (sym c.has_bit.ensures ∙ c.if-has_bit.true) some
    ∙ ap (λ (s : List ℕ). words_behind c.args.tag c.args.separator c.args.mask s
    (others c.args.tag c.args.separator c.args.mask text rest c.in-len1-up.len_at_least))
    (sym c.in_ok-push_behind-in-Some.ensures)

pub bits-preserved : goal.bits-preserved
bits-preserved g c = c.bits.invariant ∙ bit_passed c.args.tag c.args.separator c.args.mask (string_bytes c.bits.text) c.bits.rest.now c.in-len1-up.len_at_least
    (sym c.has_bit.ensures ∙ c.if-has_bit.false)

pub returns : goal.returns
returns g c = sym (c.bits.invariant ∙ bits_end c.args.tag c.args.separator c.args.mask (string_bytes c.bits.text) c.bits.rest.now c.in_default.len_below)
