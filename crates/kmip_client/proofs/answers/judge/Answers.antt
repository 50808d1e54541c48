use Rattle.kmip_client.specs.Answers.{AreAnswers, RefusesWhole}
use Rattle.kmip_client.proofs.Deciding.{decides, passed, not_passed}
use Rattle.kmip_client.proofs.answers.judge.Goals as goal

pub returns-then-is_refused_whole : goal.returns-then-is_refused_whole
returns-then-is_refused_whole g c = (
  passed c.is_counted.ensures c.if-not-is_counted.false,
  passed (decides RefusesWhole c.is_refused_whole.result c.as_slice.ensures.value c.is_refused_whole.ensures) c.if-is_refused_whole.true,
)

pub returns-then-are_answers : goal.returns-then-are_answers
returns-then-are_answers g c =
    let of_items = decides (λ x. AreAnswers x c.as_slice-else-not-is_of_version-2.result.now) c.are_answers.result
    c.as_slice-else-not-is_of_version.ensures.value c.are_answers.ensures in
    let answered = decides (AreAnswers c.args.request.now.items.items) c.are_answers.result c.as_slice-else-not-is_of_version-2.ensures.value of_items in (
      passed c.is_counted.ensures c.if-not-is_counted.false,
      passed c.is_of_version.ensures c.if-not-is_of_version.false,
      passed answered c.if-are_answers.true,
    )

pub returns-else-are_answers : goal.returns-else-are_answers
returns-else-are_answers g c =
    let of_items = decides (λ x. AreAnswers x c.as_slice-else-not-is_of_version-2.result.now) c.are_answers.result
    c.as_slice-else-not-is_of_version.ensures.value c.are_answers.ensures in
    let answered = decides (AreAnswers c.args.request.now.items.items) c.are_answers.result c.as_slice-else-not-is_of_version-2.ensures.value of_items in
    let refused = decides RefusesWhole c.is_refused_whole.result c.as_slice.ensures.value c.is_refused_whole.ensures in (
      passed c.is_counted.ensures c.if-not-is_counted.false,
      passed c.is_of_version.ensures c.if-not-is_of_version.false,
      not_passed c.are_answers.result answered c.if-are_answers.false,
      not_passed c.is_refused_whole.result refused c.if-is_refused_whole.false,
    )
