-- `listing::print::put_listing` meets its contract. Assumes nothing.
use borrow.Author.Rules.{rules}
use Rattle.text.specs.Listing.{heading}
use Rattle.listing.proofs.Texts.{listing_wrote}
use Rattle.listing.proofs.print.put_listing.Goals as goal

pub returns : goal.returns
unfolding heading
returns c =
    listing_wrote c.args.map.bytes.now c.args.out.now c.new-page.result _ _ c.new-page.ensures.blank.0 c.new-page.ensures.blank.1 c.text.ensures c.put_lines.ensures _
    (search rules)
