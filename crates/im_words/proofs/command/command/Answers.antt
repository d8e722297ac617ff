use Rattle.std.proofs.lemmas.Result.{IfOk-weaker}
use Rattle.im_words.proofs.CommandLemmas.{with_argument, without_help}
use Rattle.im_words.proofs.command.command.Goals as goal

pub returns : goal.returns
returns c =
    let held = c.mode_arg.ensures.rule in
    let bare = without_help _ _ c.disable_help_flag.ensures c.new.ensures.app in
    let one = with_argument _ _ _ _ _ c.in_ok-arg.ensures c.mode_arg.ensures.local bare held.2 in
    let two = with_argument _ _ _ _ _ c.in_ok-arg-2.ensures c.setting_arg.ensures.local one c.setting_arg.ensures.rule in
    let three = with_argument _ _ _ _ _ c.in_ok-arg-3.ensures c.setting_arg-2.ensures.local two c.setting_arg-2.ensures.rule in
    let four = with_argument _ _ _ _ _ c.in_ok-arg-4.ensures c.setting_arg-3.ensures.local three c.setting_arg-3.ensures.rule in
    let five = with_argument _ _ _ _ _ c.in_ok-arg-5.ensures c.setting_arg-4.ensures.local four c.setting_arg-4.ensures.rule in
    IfOk-weaker c.arg-6.result _ _ (λ made added. (
      held.0,
      held.1,
      with_argument _ _ _ _ _ added c.setting_arg-5.ensures.local five c.setting_arg-5.ensures.rule,
    )) c.arg-6.ensures
