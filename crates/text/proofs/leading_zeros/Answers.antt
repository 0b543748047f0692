use Rattle.std.proofs.Common.{eqb, take, length-take, ◌∙◌, arith, rules, tests}
use Rattle.std.proofs.lemmas.Iterator.{YieldsList-from_slice}
use Rattle.std.proofs.lemmas.Iterator.Search.{YieldsList-from_take_while}
use Rattle.std.proofs.lemmas.Iterator.Consumers.{count_from_yields_List}
use Rattle.std.proofs.lemmas.List.Folds.{length-prefix_len}
use Rattle.std.proofs.lemmas.List.Sums.{prefix_len-le-length}
use Rattle.text.proofs.leading_zeros.Goals as goal

pub returns : goal.returns
returns c =
    let l = c.args.digits.now in
    let t = c.take_while.ensures in
    let e = count_from_yields_List c.take_while.result _ c.count.ensures.ran
    (YieldsList-from_take_while _ (λ d. eqb d 48) (YieldsList-from_slice (take 9 l) cc) t.closure t.done (λ x b q k. search (rules, tests))) ∙ length-prefix_len (λ d. eqb d 48) (take 9 l) in
    let most = prefix_len-le-length (λ d. eqb d 48) (take 9 l) in
    (omega (arith, length-take 9 l), e)
