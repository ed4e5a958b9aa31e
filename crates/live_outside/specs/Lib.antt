pub mod HandsOn
