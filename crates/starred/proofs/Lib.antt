pub mod AllStarred
