use Rattle.std.proofs.Common.{◌≡◌, ℕ, ◌+◌, ◌%◌, ◌<◌, ◌≤◌, true, List, [], ◌∷◌, length, refl, ap, ◌∙◌, subst, arith, lt-ltb, le-leb}
use Rattle.laws.specs.Pick.{at_yes, and_both}
use Rattle.codes.specs.Part.{Part}
use Rattle.chip.specs.Records.{own_part}
use Rattle.chip.specs.declared.Core.{Core}
use Rattle.frames.specs.Play.{FrameBench, acted_all, frame_bench}
use Rattle.sequence.specs.Sequence.{wren, wren_and_write, page_wait}
use Rattle.frames.specs.Sent.{after_all, write_bytes, in_page, after_write}
use Rattle.sequence.proofs.Ready.{bench_of_law, own_acted}
use Rattle.driver.specs.Told.{Told}
use Rattle.sequence.proofs.Joined.{page_acts_law, page_most}
use Rattle.driver.proofs.Told.{told}
use Rattle.driver.proofs.pages.write_page.Goals as goal

-- WREN and then WRITE, each at the part of its own record: the first one's
both : (d : FrameBench) (enabled begun : Core) (a : ℕ) (bytes : List ℕ) → in_page (own_part d.core) a (length bytes) ≡ true
    → enabled ≡ (acted_all (own_part d.core) (wren ∷ []) d).core → begun ≡ after_write (own_part enabled) enabled a bytes
    → begun ≡ (acted_all (own_part d.core) (wren_and_write (own_part d.core) a bytes) d).core
both d enabled begun a bytes fits e h =
    let P = own_part d.core in
    h
    ∙ ap (λ (Q : Part). after_write Q enabled a bytes) (own_acted P (wren ∷ []) d e)
    ∙ at_yes _ _ fits
    ∙ ap (λ (x : Core). after_all P x (write_bytes P a bytes)) e

-- after the WRITE: the record
begins : (d : FrameBench) (enabled begun : Core) (a : ℕ) (bytes : List ℕ) → a < (own_part d.core).size
    → a % (own_part d.core).page + length bytes ≤ (own_part d.core).page
    → enabled ≡ (acted_all (own_part d.core) (wren ∷ []) d).core → begun ≡ after_write (own_part enabled) enabled a bytes
    → begun ≡ (acted_all (own_part d.core) (wren_and_write (own_part d.core) a bytes) d).core
begins d enabled begun a bytes inside fits = both d enabled begun a bytes (and_both _ _ (lt-ltb _ _ inside) (le-leb _ _ fits))

pub and_sent-requires : goal.and_sent-requires
and_sent-requires c =
    let a = c.args in
    let x : FrameBench = frame_bench c.write-begun.result a.memory.now a.identification.now in
    let most = page_most (own_part x.core) a.polls.interval a.polls.limit x a.polls.some in
    omega (arith, c.page_wait.ensures.1.1.0, a.polls.most)

pub returns : goal.returns
returns c =
    let wait = c.page_wait in
    let a = c.args in
    let d : FrameBench = frame_bench a.core a.memory.now a.identification.now in
    let P = own_part a.core in
    let x : FrameBench = frame_bench c.write-begun.result a.memory.now a.identification.now in
    let begun = begins d c.wren-enabled.result c.write-begun.result a.address a.bytes.now c.requires.address_bound c.requires.bytes_bound
    c.wren-enabled.ensures c.write-begun.ensures in
    let acts = wren_and_write P a.address a.bytes.now in
    let e = bench_of_law (acted_all P acts d) begun refl refl in
    let follows = page_acts_law P a.polls.interval a.polls.limit d x a.address a.bytes.now e in
    let waited =
    subst (λ (Q : Part). Told Q (page_wait Q a.polls.interval a.polls.limit x) x wait.result wait.new.memory wait.new.identification)
    (own_acted P acts d begun) wait.ensures in
    told P _ d _ x 2 follows wait.result c.and_sent.result wait.new.memory wait.new.identification waited c.and_sent.ensures
