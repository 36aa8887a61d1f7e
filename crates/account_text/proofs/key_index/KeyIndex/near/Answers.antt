use Rattle.std.proofs.Common.{◌≤◌, length, sym, arith}
use Rattle.account_text.proofs.Changes.{read-rising, read-within, read-cut, read-ordered}
use Rattle.account_text.proofs.key_index.KeyIndex.near.Goals as goal

pub slice_bounds-result-count : goal.slice_bounds-result-count
slice_bounds-result-count c =
    let i = c.self.inside in
    let bucket = c.bucket_of-bucket in
    read-rising i.buckets i.changes.items i.starts.items c.self.invariant bucket.result
    (bucket.ensures.below c.self.invariant.some) c.args.key
    (sym bucket.ensures.is) c.index.result.now c.index-2.result.now c.deref.result.now c.index.ensures c.index-2.ensures
    c.deref.ensures.value

pub slice_bounds-result-start : goal.slice_bounds-result-start
slice_bounds-result-start c =
    let i = c.self.inside in
    let bucket = c.bucket_of-bucket in
    let rising : c.index.result.now ≤ c.index-2.result.now =
    read-rising i.buckets i.changes.items i.starts.items c.self.invariant bucket.result
    (bucket.ensures.below c.self.invariant.some) c.args.key
    (sym bucket.ensures.is) c.index.result.now c.index-2.result.now c.deref.result.now c.index.ensures c.index-2.ensures
    c.deref.ensures.value in
    let within : c.index-2.result.now ≤ length c.deref.result.now =
    read-within i.buckets i.changes.items i.starts.items c.self.invariant bucket.result
    (bucket.ensures.below c.self.invariant.some) c.args.key
    (sym bucket.ensures.is) c.index.result.now c.index-2.result.now c.deref.result.now c.index.ensures c.index-2.ensures
    c.deref.ensures.value in
    omega arith

pub returns-clause-cut : goal.returns-clause-cut
returns-clause-cut c =
    let i = c.self.inside in
    let bucket = c.bucket_of-bucket in
    rw (← c.self.view_is) (read-cut i.buckets i.changes.items i.starts.items c.self.invariant bucket.result
    (bucket.ensures.below c.self.invariant.some) c.args.key
    (sym bucket.ensures.is) c.index.result.now c.index-2.result.now c.deref.result.now c.index.ensures c.index-2.ensures
    c.deref.ensures.value)

pub returns-clause-ordered : goal.returns-clause-ordered
returns-clause-ordered c =
    let i = c.self.inside in
    let bucket = c.bucket_of-bucket in
    read-ordered i.buckets i.changes.items i.starts.items c.self.invariant bucket.result
    (bucket.ensures.below c.self.invariant.some) c.args.key
    (sym bucket.ensures.is) c.index.result.now c.index-2.result.now c.deref.result.now c.index.ensures c.index-2.ensures
    c.deref.ensures.value
