-- `sound::questions::everywhere` meets its contract: each question is asked at its places. Assumes nothing.
use Rattle.std.proofs.Common.{◌≡◌, Bool, rules}
use Rattle.laws.specs.All.{every}
use Rattle.cells.specs.World.{World}
use Rattle.cells.specs.Memories.{world_of}
use Rattle.sound.specs.Questions.{answer_at, places_of, everywhere}
use Rattle.sound.specs.declared.questions.Question.{Question}
use Rattle.sound.specs.declared.questions.Question.TheVariants.{Row, OfNode, OfLink, OfPort, OfTile, OfEnd}
use Rattle.sound.specs.declared.questions.Question.TheVariants.{Tied, Sends, Replied, QuietPort, QuietEnd, QuietLine}
use Rattle.sound.proofs.questions.everywhere.Goals as goal

-- a question that is found to be r is asked where r is
asked : (r : Question) (w : World) {q : Question} {b : Bool} → q ≡ r → b ≡ every w.net.nodes (places_of r) (answer_at r w) → b ≡ everywhere q w
unfolding everywhere
asked r w is e = rw (is, e)

pub returns-in-Row : goal.returns-in-Row
returns-in-Row c =
    let w = world_of c.args.m.now in
    let r = Row c.in-Row.field-0 c.in-Row.t in
    let all_places = c.at_every_place.ensures (answer_at r w) (λ slot i b e. search rules) in
    asked r w c.in-Row.is (rw c.places.ensures at all_places)

pub returns-in-OfNode : goal.returns-in-OfNode
returns-in-OfNode c =
    let w = world_of c.args.m.now in
    asked OfNode w c.in-OfNode.is (c.at_every_place-in-OfNode.ensures (answer_at OfNode w) (λ slot i b e. search rules))

pub returns-in-OfLink : goal.returns-in-OfLink
returns-in-OfLink c =
    let w = world_of c.args.m.now in
    asked OfLink w c.in-OfLink.is (c.at_every_place-in-OfLink.ensures (answer_at OfLink w) (λ slot i b e. search rules))

pub returns-in-OfPort : goal.returns-in-OfPort
returns-in-OfPort c =
    let w = world_of c.args.m.now in
    asked OfPort w c.in-OfPort.is (c.at_every_place-in-OfPort.ensures (answer_at OfPort w) (λ slot i b e. search rules))

pub returns-in-OfTile : goal.returns-in-OfTile
returns-in-OfTile c =
    let w = world_of c.args.m.now in
    asked OfTile w c.in-OfTile.is (c.at_every_place-in-OfTile.ensures (answer_at OfTile w) (λ slot i b e. search rules))

pub returns-in-OfEnd : goal.returns-in-OfEnd
returns-in-OfEnd c =
    let w = world_of c.args.m.now in
    asked OfEnd w c.in-OfEnd.is (c.at_every_place-in-OfEnd.ensures (answer_at OfEnd w) (λ slot i b e. search rules))

pub returns-in-Tied : goal.returns-in-Tied
returns-in-Tied c =
    let w = world_of c.args.m.now in
    asked Tied w c.in-Tied.is (c.at_every_place-in-Tied.ensures (answer_at Tied w) (λ slot i b e. search rules))

pub returns-in-Sends : goal.returns-in-Sends
returns-in-Sends c =
    let w = world_of c.args.m.now in
    asked Sends w c.in-Sends.is (c.at_every_place-in-Sends.ensures (answer_at Sends w) (λ slot i b e. search rules))

pub returns-in-Replied : goal.returns-in-Replied
returns-in-Replied c =
    let w = world_of c.args.m.now in
    asked Replied w c.in-Replied.is (c.at_every_place-in-Replied.ensures (answer_at Replied w) (λ slot i b e. search rules))

pub returns-in-QuietPort : goal.returns-in-QuietPort
returns-in-QuietPort c =
    let w = world_of c.args.m.now in
    asked QuietPort w c.in-QuietPort.is (c.at_every_place-in-QuietPort.ensures (answer_at QuietPort w) (λ slot i b e. search rules))

pub returns-in-QuietEnd : goal.returns-in-QuietEnd
returns-in-QuietEnd c =
    let w = world_of c.args.m.now in
    asked QuietEnd w c.in-QuietEnd.is (c.at_every_place-in-QuietEnd.ensures (answer_at QuietEnd w) (λ slot i b e. search rules))

pub returns-in-QuietLine : goal.returns-in-QuietLine
returns-in-QuietLine c =
    let w = world_of c.args.m.now in
    asked QuietLine w c.in-QuietLine.is (c.at_every_place-in-QuietLine.ensures (answer_at QuietLine w) (λ slot i b e. search rules))
