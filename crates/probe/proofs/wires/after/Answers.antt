-- `probe::wires::after` meets its contract: the library's fold is the definition's. Assumes nothing.
use Rattle.std.proofs.Common.{◌≡◌, rules, ◌∙◌}
use Rattle.std.specs.List.{fold}
use Rattle.probe.specs.Wires.{changed}
use Rattle.probe.proofs.Levels.{after_folds}
use Rattle.probe.proofs.wires.after.Goals as goal

pub returns : goal.returns
returns c =
    let folded : c.fold.result ≡ fold changed c.args.wires c.args.symbols.now = search rules in
    folded ∙ after_folds c.args.symbols.now c.args.wires
