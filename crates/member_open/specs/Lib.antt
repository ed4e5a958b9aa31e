pub mod OneMember
